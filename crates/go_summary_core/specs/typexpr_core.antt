-- What the crates above name of go_typexpr_core.
pub use Rattle.go_declared_core.specs.typexpr_core.AliasesAliases as AliasesAliases
pub use Rattle.go_declared_core.specs.typexpr_core.AliasesEnding as AliasesEnding
pub use Rattle.go_declared_core.specs.typexpr_core.AliasesLaws as AliasesLaws
pub use Rattle.go_declared_core.specs.typexpr_core.AliasesNumbers as AliasesNumbers
pub use Rattle.go_declared_core.specs.typexpr_core.EntryEntries as EntryEntries
pub use Rattle.go_declared_core.specs.typexpr_core.EntryMeanings as EntryMeanings
pub use Rattle.go_declared_core.specs.typexpr_core.EntryNumbered as EntryNumbered
pub use Rattle.go_declared_core.specs.typexpr_core.EntryOutlines as EntryOutlines
pub use Rattle.go_declared_core.specs.typexpr_core.WrittenWritten as WrittenWritten
