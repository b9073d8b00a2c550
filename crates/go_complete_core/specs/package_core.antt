-- What the crates above name of go_package_core.
pub use Rattle.go_package_core.specs.Checked as Checked
pub use Rattle.go_package_core.specs.package_part.Inputs as PackagePartInputs
pub use Rattle.go_package_core.specs.package_part.Laws as PackagePartLaws
pub use Rattle.go_package_core.specs.package_part.Parts as PackagePartParts
pub use Rattle.go_package_core.specs.package_part.Slots as PackagePartSlots
pub use Rattle.go_package_core.specs.prepare.Laws as PrepareLaws
pub use Rattle.go_package_core.proofs.PrepareLists as PrepareLists
pub use Rattle.go_package_core.proofs.PrepareMade as PrepareMade
pub use Rattle.go_package_core.specs.prepare.Packages as PreparePackages
pub use Rattle.go_package_core.specs.prepare.Values as PrepareValues
pub use Rattle.go_package_core.proofs.PrepareValues as PrepareValuesProofs
