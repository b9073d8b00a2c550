pub mod Laws
pub mod Respelled
