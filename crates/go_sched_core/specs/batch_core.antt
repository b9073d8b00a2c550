-- What the crates above name of go_batch_core.
pub use Rattle.go_batch_core.specs.Batches as Batches
pub use Rattle.go_batch_core.specs.seen.Sights as SeenSights
pub use Rattle.go_batch_core.specs.contracts as contracts
