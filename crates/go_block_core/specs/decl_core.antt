-- What the crates above name of go_decl_core.
pub use Rattle.go_decl_core.proofs.AnchorLemmas as AnchorLemmas
pub use Rattle.go_decl_core.specs.Anchors as Anchors
pub use Rattle.go_decl_core.specs.Laws as Laws
pub use Rattle.go_decl_core.proofs.Numbers as Numbers
pub use Rattle.go_decl_core.specs.Outer as Outer
pub use Rattle.go_decl_core.specs.Shown as Shown
pub use Rattle.go_decl_core.specs.TopDecls as TopDecls
pub use Rattle.go_decl_core.specs.declared as declared
