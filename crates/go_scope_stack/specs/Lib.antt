pub mod Blocks
pub mod Laws
