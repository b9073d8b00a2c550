-- What the crates above name of go_report_core.
pub use Rattle.go_report_core.specs.Faults as Faults
pub use Rattle.go_report_core.specs.Laws as Laws
pub use Rattle.go_report_core.proofs.Settled as Settled
pub use Rattle.go_report_core.specs.usage.Laws as UsageLaws
pub use Rattle.go_report_core.specs.usage.Used as UsageUsed
pub use Rattle.go_report_core.specs.declared as declared
