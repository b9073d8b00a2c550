-- What the crates above name of go_tree_core.
pub use Rattle.go_tree_core.specs.copies.Respelled as CopiesRespelled
pub use Rattle.go_tree_core.specs.Laws as Laws
pub use Rattle.go_tree_core.specs.Names as Names
pub use Rattle.go_tree_core.specs.Occurrences as Occurrences
pub use Rattle.go_tree_core.proofs.Order as Order
pub use Rattle.go_tree_core.specs.Renaming as Renaming
pub use Rattle.go_tree_core.proofs.Telling as Telling
pub use Rattle.go_tree_core.specs.declared as declared
