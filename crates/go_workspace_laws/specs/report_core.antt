-- What the crates above name of go_report_core.
pub use Rattle.go_report_core.specs.usage.Used as UsageUsed
