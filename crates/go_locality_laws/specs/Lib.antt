pub mod Alike
pub mod Beside
pub mod ImportLaws
