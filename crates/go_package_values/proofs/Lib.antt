pub mod Alike
pub mod Standing
