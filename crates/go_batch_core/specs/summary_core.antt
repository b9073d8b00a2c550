-- What the crates above name of go_summary_core.
pub use Rattle.go_summary_core.specs.Summaries as Summaries
