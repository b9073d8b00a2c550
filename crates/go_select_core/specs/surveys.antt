pub mod Sole
pub mod SoleShown
pub mod Surveys
pub mod codes
pub mod mirrors
