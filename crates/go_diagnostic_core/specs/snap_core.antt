-- What the crates above name of go_snap_core.
pub use Rattle.go_snap_core.specs.Faults as Faults
pub use Rattle.go_snap_core.specs.Snapshots as Snapshots
pub use Rattle.go_snap_core.specs.declared as declared
