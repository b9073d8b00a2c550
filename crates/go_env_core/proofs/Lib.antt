pub mod Predeclared
pub mod Seeing
pub mod ByName
pub mod Standing
