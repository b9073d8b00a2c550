-- What the crates above name of go_handle_core.
pub use Rattle.go_handle_core.specs.deciding.Conversion as DecidingConversion
pub use Rattle.go_handle_core.specs.deciding.Rules as DecidingRules
pub use Rattle.go_handle_core.specs.deciding.Selecting as DecidingSelecting
pub use Rattle.go_handle_core.specs.Declarations as Declarations
pub use Rattle.go_handle_core.specs.Names as Names
