pub mod Parts
pub mod Served
pub mod Called
pub mod Runs
