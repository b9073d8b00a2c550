-- What the crates above name of go_body_core.
pub use Rattle.go_body_core.specs.Body as Body
pub use Rattle.go_body_core.specs.file.Files as FileFiles
pub use Rattle.go_body_core.specs.file.Imports as FileImports
pub use Rattle.go_body_core.specs.file.Stands as FileStands
pub use Rattle.go_body_core.proofs.FunctionBodies as FunctionBodies
pub use Rattle.go_body_core.specs.function.Functions as FunctionFunctions
pub use Rattle.go_body_core.specs.function.Laws as FunctionLaws
pub use Rattle.go_body_core.proofs.FunctionNamed as FunctionNamed
pub use Rattle.go_body_core.specs.function.Stands as FunctionStands
pub use Rattle.go_body_core.specs.function.Types as FunctionTypes
pub use Rattle.go_body_core.specs.Notes as Notes
pub use Rattle.go_body_core.specs.Pieces as Pieces
pub use Rattle.go_body_core.specs.Rules as Rules
pub use Rattle.go_body_core.specs.WellFormed as WellFormed
pub use Rattle.go_body_core.proofs.WellFormed as WellFormedProofs
