-- What the crates above name of go_select_core.
pub use Rattle.go_select_core.proofs.LevelsAnswering as LevelsAnswering
pub use Rattle.go_select_core.proofs.LevelsEdges as LevelsEdges
pub use Rattle.go_select_core.proofs.LevelsListLemmas as LevelsListLemmas
pub use Rattle.go_select_core.specs.levels.mirrors as LevelsMirrors
pub use Rattle.go_select_core.specs.levels.Paths as LevelsPaths
pub use Rattle.go_select_core.specs.levels.Selectors as LevelsSelectors
pub use Rattle.go_select_core.proofs.LevelsWeights as LevelsWeights
pub use Rattle.go_select_core.proofs.Local as Local
pub use Rattle.go_select_core.proofs.Meanings as Meanings
pub use Rattle.go_select_core.proofs.Short as Short
pub use Rattle.go_select_core.specs.declared as declared
