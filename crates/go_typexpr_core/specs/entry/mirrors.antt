pub mod Gaining
pub mod Indexing
pub mod Targeted
