pub mod Around
pub mod Initial
pub mod Laws
pub mod Package
pub mod Sample
pub mod mirrors
pub mod env_core
pub mod table_core
