-- What the crates above name of go_report_core.
pub use Rattle.go_package_core.specs.report_core.UsageUsed as UsageUsed
