-- What the crates above name of go_scope_stack.
pub use Rattle.go_expr_core.specs.scope_stack.Blocks as Blocks
pub use Rattle.go_expr_core.specs.scope_stack.Names as Names
pub use Rattle.go_expr_core.specs.scope_stack.declared as declared
