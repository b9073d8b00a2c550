pub mod Innermost
pub mod Names
pub mod News
pub mod Shorts
pub mod Tables
