-- What the crates above name of go_batch_core.
pub use Rattle.go_batch_core.specs.contracts as contracts
