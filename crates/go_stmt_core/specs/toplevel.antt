pub mod Initial
pub mod Tops
