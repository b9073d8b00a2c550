pub mod Asked
pub mod Built
pub mod Coding
pub mod Looked
pub mod Queries
pub mod mirrors
