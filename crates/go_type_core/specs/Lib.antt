pub mod Built
pub mod Laws
pub mod Sample
pub mod mirrors
pub mod table_core
