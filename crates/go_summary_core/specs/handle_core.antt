-- What the crates above name of go_handle_core.
pub use Rattle.go_declared_core.specs.handle_core.DecidingChoosing as DecidingChoosing
pub use Rattle.go_declared_core.specs.handle_core.DecidingConversion as DecidingConversion
pub use Rattle.go_declared_core.specs.handle_core.DecidingLocalities as DecidingLocalities
pub use Rattle.go_declared_core.specs.handle_core.DecidingRules as DecidingRules
pub use Rattle.go_declared_core.specs.handle_core.DecidingSelecting as DecidingSelecting
pub use Rattle.go_declared_core.specs.handle_core.Declarations as Declarations
pub use Rattle.go_declared_core.specs.handle_core.Names as Names
pub use Rattle.go_declared_core.specs.handle_core.Stars as Stars
