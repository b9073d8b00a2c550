pub mod front
pub mod ending
