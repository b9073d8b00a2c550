pub mod Constants
pub mod Fragment
pub mod Inside
pub mod Names
pub mod Operators
pub mod Slots
pub mod mirrors
