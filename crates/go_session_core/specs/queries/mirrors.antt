-- What loops keep.
pub mod Adding
