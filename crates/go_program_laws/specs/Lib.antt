pub mod checked_sources
pub mod calls
pub mod types
pub mod faultless
pub mod references
