-- What the crates above name of go_sched_core.
pub use Rattle.go_sched_core.specs.Service as Service
pub use Rattle.go_sched_core.specs.Steps as Steps
pub use Rattle.go_sched_core.specs.contracts as contracts
pub use Rattle.go_sched_core.specs.declared as declared
