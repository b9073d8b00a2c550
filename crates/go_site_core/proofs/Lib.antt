pub mod Finding
pub mod Locating
