-- What the crates above name of go_scope_core.
pub use Rattle.go_names_core.specs.scope_core.Laws as Laws
pub use Rattle.go_names_core.specs.scope_core.Lookups as Lookups
pub use Rattle.go_names_core.specs.scope_core.Models as Models
pub use Rattle.go_names_core.specs.scope_core.Scopes as Scopes
