pub mod Pieces
pub mod Staying
