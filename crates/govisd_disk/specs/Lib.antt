pub mod Finds
pub mod Notes
pub mod Puts
pub mod Reads
pub mod Scopes
pub mod at_once
