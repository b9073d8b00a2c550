-- What the crates above name of go_constant_core.
pub use Rattle.go_constant_core.specs.contracts as contracts
pub use Rattle.go_constant_core.specs.declared as declared
