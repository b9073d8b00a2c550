pub mod Batches
pub mod Reading
