pub mod Laws
pub mod Path
pub mod mirrors
pub mod text_core
