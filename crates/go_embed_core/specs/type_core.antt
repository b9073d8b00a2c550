-- What the crates above name of go_type_core.
pub use Rattle.go_type_core.proofs.Building as Building
pub use Rattle.go_type_core.specs.Built as Built
pub use Rattle.go_type_core.proofs.Elsewhere as Elsewhere
pub use Rattle.go_type_core.proofs.Keyed as Keyed
pub use Rattle.go_type_core.specs.Laws as Laws
pub use Rattle.go_type_core.proofs.Looping as Looping
pub use Rattle.go_type_core.proofs.Mentioned as Mentioned
pub use Rattle.go_type_core.proofs.Nothings as Nothings
pub use Rattle.go_type_core.proofs.Steps as Steps
pub use Rattle.go_type_core.proofs.Together as Together
pub use Rattle.go_type_core.proofs.Unders as Unders
pub use Rattle.go_type_core.specs.declared as declared
pub use Rattle.go_type_core.specs.mirrors as mirrors
