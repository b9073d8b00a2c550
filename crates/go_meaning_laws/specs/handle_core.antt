-- What the crates above name of go_handle_core.
pub use Rattle.go_handle_core.specs.deciding.Assigning as DecidingAssigning
pub use Rattle.go_handle_core.proofs.DecidingChoosing as DecidingChoosing
pub use Rattle.go_handle_core.specs.deciding.Conversion as DecidingConversion
pub use Rattle.go_handle_core.specs.deciding.Identity as DecidingIdentity
pub use Rattle.go_handle_core.specs.deciding.Implementing as DecidingImplementing
pub use Rattle.go_handle_core.specs.deciding.Rules as DecidingRules
pub use Rattle.go_handle_core.specs.deciding.Selecting as DecidingSelecting
pub use Rattle.go_handle_core.specs.Declarations as Declarations
