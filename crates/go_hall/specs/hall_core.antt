-- What the crates above name of go_hall_core.
pub use Rattle.go_hall_core.specs.contracts as contracts
pub use Rattle.go_hall_core.specs.declared as declared
