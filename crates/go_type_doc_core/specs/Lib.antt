pub mod Comments
pub mod Laws
pub mod Names
pub mod Naming
pub mod TypeDocs
pub mod mirrors
pub mod members
pub mod query_core
