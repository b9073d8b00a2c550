-- What the crates above name of go_embed_core.
pub use Rattle.go_embed_core.specs.Faults as Faults
pub use Rattle.go_embed_core.proofs.Ids as Ids
pub use Rattle.go_embed_core.specs.Owners as Owners
pub use Rattle.go_embed_core.specs.OwnersShown as OwnersShown
pub use Rattle.go_embed_core.proofs.Telling as Telling
pub use Rattle.go_embed_core.specs.declared as declared
