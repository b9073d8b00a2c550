pub mod Values
pub mod Meaning
pub mod Whole
pub mod Laws
pub mod Samples
