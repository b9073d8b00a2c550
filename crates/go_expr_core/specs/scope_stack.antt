-- What the crates above name of go_scope_stack.
pub use Rattle.go_local_core.specs.scope_stack.Blocks as Blocks
pub use Rattle.go_local_core.specs.scope_stack.Innermost as Innermost
pub use Rattle.go_local_core.specs.scope_stack.Names as Names
pub use Rattle.go_local_core.specs.scope_stack.declared as declared
