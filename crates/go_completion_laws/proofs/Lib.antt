pub mod Agreed
mod Fitted
pub mod Parted
mod Puts
