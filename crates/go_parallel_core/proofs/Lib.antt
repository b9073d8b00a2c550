mod Crossing
mod Cutting
mod Handing
mod Seeing
mod Telling
