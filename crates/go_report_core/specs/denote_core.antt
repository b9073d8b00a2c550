-- What the crates above name of go_denote_core.
pub use Rattle.go_expr_core.specs.denote_core.Answers as Answers
pub use Rattle.go_expr_core.specs.denote_core.Arguments as Arguments
pub use Rattle.go_expr_core.specs.denote_core.Calls as Calls
pub use Rattle.go_expr_core.specs.denote_core.CompositeFields as CompositeFields
pub use Rattle.go_expr_core.specs.denote_core.CompositeKeys as CompositeKeys
pub use Rattle.go_expr_core.specs.denote_core.CompositeLiterals as CompositeLiterals
pub use Rattle.go_expr_core.specs.denote_core.CompositeLook as CompositeLook
pub use Rattle.go_expr_core.specs.denote_core.CompositeRepeats as CompositeRepeats
pub use Rattle.go_expr_core.specs.denote_core.Laws as Laws
pub use Rattle.go_expr_core.specs.denote_core.Locality as Locality
pub use Rattle.go_expr_core.specs.denote_core.Look as Look
pub use Rattle.go_expr_core.specs.denote_core.Selectors as Selectors
pub use Rattle.go_expr_core.specs.denote_core.declared as declared
