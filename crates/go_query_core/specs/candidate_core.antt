-- What the crates above name of go_candidate_core.
pub use Rattle.go_complete_core.specs.candidate_core.ContextAlone as ContextAlone
pub use Rattle.go_complete_core.specs.candidate_core.ContextDeciding as ContextDeciding
pub use Rattle.go_complete_core.specs.candidate_core.ContextLaws as ContextLaws
pub use Rattle.go_complete_core.specs.candidate_core.FittingFitting as FittingFitting
