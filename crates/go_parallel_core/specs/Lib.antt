pub mod Handed
pub mod Seen
pub mod Told
pub mod Works
