pub mod Threads
pub mod snap_core
