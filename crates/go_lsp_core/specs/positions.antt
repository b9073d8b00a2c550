pub mod Positions
pub mod Edits
pub mod Laws
pub mod mirrors
