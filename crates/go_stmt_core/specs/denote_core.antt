-- What the crates above name of go_denote_core.
pub use Rattle.go_expr_core.specs.denote_core.Arguments as Arguments
pub use Rattle.go_expr_core.specs.denote_core.Look as Look
pub use Rattle.go_expr_core.specs.denote_core.declared as declared
