pub mod Values
pub mod Texts
pub mod Laws
pub mod text_core
