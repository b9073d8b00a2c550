pub mod IdentLemmas
pub mod InOrder
pub mod Naming
pub mod ShapeLemmas
pub mod TypeShapes
