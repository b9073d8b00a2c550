-- What the crates above name of go_type_core.
pub use Rattle.go_embed_core.specs.type_core.Building as Building
pub use Rattle.go_embed_core.specs.type_core.Built as Built
pub use Rattle.go_embed_core.specs.type_core.Elsewhere as Elsewhere
pub use Rattle.go_embed_core.specs.type_core.Keyed as Keyed
pub use Rattle.go_embed_core.specs.type_core.Laws as Laws
pub use Rattle.go_embed_core.specs.type_core.Looping as Looping
pub use Rattle.go_embed_core.specs.type_core.Mentioned as Mentioned
pub use Rattle.go_embed_core.specs.type_core.Nothings as Nothings
pub use Rattle.go_embed_core.specs.type_core.Steps as Steps
pub use Rattle.go_embed_core.specs.type_core.Together as Together
pub use Rattle.go_embed_core.specs.type_core.Unders as Unders
pub use Rattle.go_embed_core.specs.type_core.declared as declared
pub use Rattle.go_embed_core.specs.type_core.mirrors as mirrors
