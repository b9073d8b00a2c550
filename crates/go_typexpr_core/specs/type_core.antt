-- What the crates above name of go_type_core.
pub use Rattle.go_type_core.specs.Built as Built
pub use Rattle.go_type_core.specs.declared as declared
