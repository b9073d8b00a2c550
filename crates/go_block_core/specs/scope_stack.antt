-- What the crates above name of go_scope_stack.
pub use Rattle.go_scope_stack.specs.Blocks as Blocks
pub use Rattle.go_scope_stack.proofs.Innermost as Innermost
pub use Rattle.go_scope_stack.proofs.Names as Names
pub use Rattle.go_scope_stack.proofs.News as News
pub use Rattle.go_scope_stack.specs.contracts as contracts
pub use Rattle.go_scope_stack.specs.declared as declared
