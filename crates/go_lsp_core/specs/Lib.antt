pub mod positions
pub mod frames
pub mod edits
