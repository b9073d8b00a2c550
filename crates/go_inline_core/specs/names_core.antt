-- What the crates above name of go_names_core.
pub use Rattle.go_names_core.specs.Scope as Scope
pub use Rattle.go_names_core.specs.declared as declared
