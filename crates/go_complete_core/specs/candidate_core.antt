-- What the crates above name of go_candidate_core.
pub use Rattle.go_candidate_core.specs.context.Alone as ContextAlone
pub use Rattle.go_candidate_core.proofs.ContextDeciding as ContextDeciding
pub use Rattle.go_candidate_core.specs.context.Laws as ContextLaws
pub use Rattle.go_candidate_core.specs.fitting.Fitting as FittingFitting
