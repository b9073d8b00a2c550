pub mod Numbers
pub mod Reach
pub mod mirrors
