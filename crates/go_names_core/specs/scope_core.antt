-- What the crates above name of go_scope_core.
pub use Rattle.go_scope_core.specs.Laws as Laws
pub use Rattle.go_scope_core.proofs.Lookups as Lookups
pub use Rattle.go_scope_core.specs.Models as Models
pub use Rattle.go_scope_core.specs.Scopes as Scopes
