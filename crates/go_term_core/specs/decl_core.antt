-- What the crates above name of go_decl_core.
pub use Rattle.go_decl_core.specs.Laws as Laws
pub use Rattle.go_decl_core.proofs.Numbers as Numbers
pub use Rattle.go_decl_core.specs.Order as Order
pub use Rattle.go_decl_core.proofs.Order as OrderProofs
pub use Rattle.go_decl_core.specs.Outer as Outer
pub use Rattle.go_decl_core.specs.Sample as Sample
pub use Rattle.go_decl_core.specs.Shown as Shown
pub use Rattle.go_decl_core.specs.Table as Table
pub use Rattle.go_decl_core.proofs.Tables as Tables
pub use Rattle.go_decl_core.specs.TopDecls as TopDecls
pub use Rattle.go_decl_core.specs.contracts as contracts
pub use Rattle.go_decl_core.specs.declared as declared
