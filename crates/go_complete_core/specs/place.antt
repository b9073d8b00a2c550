pub mod Completions
pub mod Laws
pub mod Completed
