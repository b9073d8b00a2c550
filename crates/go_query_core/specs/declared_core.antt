-- What the crates above name of go_declared_core.
pub use Rattle.go_declared_core.specs.Faces as Faces
pub use Rattle.go_declared_core.specs.Here as Here
pub use Rattle.go_declared_core.specs.Laws as Laws
pub use Rattle.go_declared_core.specs.Packages as Packages
pub use Rattle.go_declared_core.proofs.Places as Places
pub use Rattle.go_declared_core.specs.Written as Written
pub use Rattle.go_declared_core.specs.declared as declared
