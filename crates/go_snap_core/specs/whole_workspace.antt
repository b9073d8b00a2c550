pub mod Entries
pub mod Inputs
pub mod Known
pub mod Laws
pub mod LocalLaws
pub mod Whole
pub mod mirrors
