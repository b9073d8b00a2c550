-- What the crates above name of go_value_core.
pub use Rattle.go_value_core.specs.Around as Around
pub use Rattle.go_value_core.proofs.Deciding as Deciding
pub use Rattle.go_value_core.specs.Initial as Initial
pub use Rattle.go_value_core.specs.Laws as Laws
pub use Rattle.go_value_core.proofs.Owning as Owning
pub use Rattle.go_value_core.specs.Package as Package
pub use Rattle.go_value_core.proofs.Seeing as Seeing
pub use Rattle.go_value_core.specs.mirrors as mirrors
