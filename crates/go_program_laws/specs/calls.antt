pub mod Clear
pub mod Constants
pub mod Integers
pub mod Packages
pub mod Places
pub mod References
pub mod Starts
