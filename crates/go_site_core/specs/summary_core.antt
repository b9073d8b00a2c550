-- What the crates above name of go_summary_core.
pub use Rattle.go_report_core.specs.summary_core.Summaries as Summaries
pub use Rattle.go_report_core.specs.summary_core.Views as Views
