-- What the crates above name of go_summary_core.
pub use Rattle.go_summary_core.proofs.AlikeListed as AlikeListed
pub use Rattle.go_summary_core.specs.Laws as Laws
pub use Rattle.go_summary_core.proofs.ShownPicking as ShownPicking
pub use Rattle.go_summary_core.specs.shown.Shown as ShownShown
pub use Rattle.go_summary_core.specs.Summaries as Summaries
pub use Rattle.go_summary_core.proofs.Telling as Telling
pub use Rattle.go_summary_core.proofs.Viewed as Viewed
pub use Rattle.go_summary_core.specs.Views as Views
pub use Rattle.go_summary_core.specs.codes as codes
pub use Rattle.go_summary_core.specs.contracts as contracts
