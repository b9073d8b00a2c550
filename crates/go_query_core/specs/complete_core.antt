-- What the crates above name of go_complete_core.
pub use Rattle.go_complete_core.proofs.OwnThings as OwnThings
pub use Rattle.go_complete_core.specs.place.Completions as PlaceCompletions
pub use Rattle.go_complete_core.proofs.PlacePlacing as PlacePlacing
pub use Rattle.go_complete_core.specs.spelling.Files as SpellingFiles
pub use Rattle.go_complete_core.specs.spelling.Functions as SpellingFunctions
pub use Rattle.go_complete_core.specs.spelling.Laws as SpellingLaws
pub use Rattle.go_complete_core.specs.spelling.Outer as SpellingOuter
pub use Rattle.go_complete_core.specs.spelling.PieceSpots as SpellingPieceSpots
pub use Rattle.go_complete_core.proofs.SpellingPieces as SpellingPieces
pub use Rattle.go_complete_core.specs.spelling.Places as SpellingPlaces
pub use Rattle.go_complete_core.specs.spelling.Spellings as SpellingSpellings
pub use Rattle.go_complete_core.specs.spelling.Trees as SpellingTrees
pub use Rattle.go_complete_core.proofs.Standing as Standing
