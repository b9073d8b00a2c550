pub mod MethodSets
pub mod MethodLists
pub mod Implementing
pub mod Laws
pub mod mirrors
pub mod embed_core
pub mod select_core
