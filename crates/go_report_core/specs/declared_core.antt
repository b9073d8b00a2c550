-- What the crates above name of go_declared_core.
pub use Rattle.go_summary_core.specs.declared_core.Faces as Faces
pub use Rattle.go_summary_core.specs.declared_core.Here as Here
pub use Rattle.go_summary_core.specs.declared_core.Laws as Laws
pub use Rattle.go_summary_core.specs.declared_core.Packages as Packages
pub use Rattle.go_summary_core.specs.declared_core.Places as Places
pub use Rattle.go_summary_core.specs.declared_core.Written as Written
pub use Rattle.go_summary_core.specs.declared_core.codes as codes
pub use Rattle.go_summary_core.specs.declared_core.declared as declared
