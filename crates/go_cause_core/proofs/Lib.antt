pub mod Directly
pub mod Growing
pub mod Rooted
