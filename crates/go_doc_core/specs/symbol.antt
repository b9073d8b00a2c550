pub mod Symbols
pub mod mirrors
