-- What the crates above name of go_body_core.
pub use Rattle.go_complete_core.specs.body_core.FileFiles as FileFiles
pub use Rattle.go_complete_core.specs.body_core.FileImports as FileImports
pub use Rattle.go_complete_core.specs.body_core.FileStands as FileStands
pub use Rattle.go_complete_core.specs.body_core.FunctionFunctions as FunctionFunctions
pub use Rattle.go_complete_core.specs.body_core.FunctionNamed as FunctionNamed
pub use Rattle.go_complete_core.specs.body_core.FunctionStands as FunctionStands
pub use Rattle.go_complete_core.specs.body_core.FunctionTypes as FunctionTypes
pub use Rattle.go_complete_core.specs.body_core.Notes as Notes
pub use Rattle.go_complete_core.specs.body_core.Pieces as Pieces
pub use Rattle.go_complete_core.specs.body_core.Rules as Rules
pub use Rattle.go_complete_core.specs.body_core.WellFormed as WellFormed
pub use Rattle.go_complete_core.specs.body_core.WellFormedProofs as WellFormedProofs
