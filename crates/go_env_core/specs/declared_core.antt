-- What the crates above name of go_declared_core.
pub use Rattle.go_declared_core.specs.Faces as Faces
pub use Rattle.go_declared_core.specs.Written as Written
pub use Rattle.go_declared_core.specs.declared as declared
