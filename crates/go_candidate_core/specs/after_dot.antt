pub mod Names
pub mod mirrors
