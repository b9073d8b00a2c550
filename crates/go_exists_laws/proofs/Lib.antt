mod Contents
mod Files
mod Ones
