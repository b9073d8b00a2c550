-- What the crates above name of go_package_core.
pub use Rattle.go_package_core.specs.package_part.Inputs as PackagePartInputs
pub use Rattle.go_package_core.specs.package_part.Parts as PackagePartParts
pub use Rattle.go_package_core.specs.contracts as contracts
