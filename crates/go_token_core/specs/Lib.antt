pub mod Characters
pub mod Escapes
pub mod Numbers
pub mod Spelling
pub mod Values
pub mod text_core
