-- What the crates above name of go_handle_core.
pub use Rattle.go_declared_core.specs.handle_core.DecidingIdentity as DecidingIdentity
pub use Rattle.go_declared_core.specs.handle_core.DecidingRules as DecidingRules
pub use Rattle.go_declared_core.specs.handle_core.Stars as Stars
