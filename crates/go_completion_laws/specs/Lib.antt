pub mod Agreeing
pub mod Completing
