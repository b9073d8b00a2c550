pub mod Boundaries
pub mod Names
pub mod Rules
pub mod Slices
pub mod Text
