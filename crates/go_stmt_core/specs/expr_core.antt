-- What the crates above name of go_expr_core.
pub use Rattle.go_expr_core.proofs.Alike as Alike
pub use Rattle.go_expr_core.specs.Denoting as Denoting
pub use Rattle.go_expr_core.specs.Elements as Elements
pub use Rattle.go_expr_core.proofs.Independence as Independence
pub use Rattle.go_expr_core.specs.Laws as Laws
pub use Rattle.go_expr_core.specs.Lists as Lists
pub use Rattle.go_expr_core.specs.Locality as Locality
pub use Rattle.go_expr_core.specs.Looks as Looks
pub use Rattle.go_expr_core.specs.Needed as Needed
pub use Rattle.go_expr_core.specs.Operators as Operators
pub use Rattle.go_expr_core.specs.Places as Places
pub use Rattle.go_expr_core.specs.Respelling as Respelling
pub use Rattle.go_expr_core.proofs.Steps as Steps
pub use Rattle.go_expr_core.proofs.TypeTurns as TypeTurns
pub use Rattle.go_expr_core.specs.TypeUses as TypeUses
pub use Rattle.go_expr_core.specs.Uses as Uses
pub use Rattle.go_expr_core.specs.declared as declared
