pub mod Finding
pub mod Keeping
pub mod Telling
pub mod mirrors
