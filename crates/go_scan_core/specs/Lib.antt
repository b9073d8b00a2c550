pub mod Answered
pub mod Cutting
pub mod Enclosed
pub mod Parts
pub mod Texts
pub mod Tokens
pub mod mirrors
