pub mod Inputs
pub mod Laws
pub mod PartCodes
pub mod Parts
pub mod Slots
