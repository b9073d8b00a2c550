-- What the crates above name of go_embed_core.
pub use Rattle.go_select_core.specs.embed_core.Ids as Ids
pub use Rattle.go_select_core.specs.embed_core.Owners as Owners
pub use Rattle.go_select_core.specs.embed_core.OwnersShown as OwnersShown
