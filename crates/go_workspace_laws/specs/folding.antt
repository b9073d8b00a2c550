pub mod Reading
pub mod Parts
pub mod Laws
pub mod Typed
pub mod Samples
