-- What the crates above name of go_package_core.
pub use Rattle.go_complete_core.specs.package_core.Checked as Checked
pub use Rattle.go_complete_core.specs.package_core.PackagePartInputs as PackagePartInputs
pub use Rattle.go_complete_core.specs.package_core.PackagePartLaws as PackagePartLaws
pub use Rattle.go_complete_core.specs.package_core.PackagePartParts as PackagePartParts
pub use Rattle.go_complete_core.specs.package_core.PackagePartSlots as PackagePartSlots
pub use Rattle.go_complete_core.specs.package_core.PrepareLaws as PrepareLaws
pub use Rattle.go_complete_core.specs.package_core.PrepareLists as PrepareLists
pub use Rattle.go_complete_core.specs.package_core.PreparePackages as PreparePackages
pub use Rattle.go_complete_core.specs.package_core.PrepareValues as PrepareValues
pub use Rattle.go_complete_core.specs.package_core.PrepareValuesProofs as PrepareValuesProofs
