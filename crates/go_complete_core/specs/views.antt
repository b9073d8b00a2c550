pub mod Imported
pub mod Laws
