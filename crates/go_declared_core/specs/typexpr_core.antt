-- What the crates above name of go_typexpr_core.
pub use Rattle.go_typexpr_core.specs.aliases.Aliases as AliasesAliases
pub use Rattle.go_typexpr_core.proofs.AliasesEnding as AliasesEnding
pub use Rattle.go_typexpr_core.specs.aliases.Laws as AliasesLaws
pub use Rattle.go_typexpr_core.proofs.AliasesNumbers as AliasesNumbers
pub use Rattle.go_typexpr_core.specs.entry.Entries as EntryEntries
pub use Rattle.go_typexpr_core.specs.entry.Meanings as EntryMeanings
pub use Rattle.go_typexpr_core.proofs.EntryNumbered as EntryNumbered
pub use Rattle.go_typexpr_core.specs.entry.Outlines as EntryOutlines
pub use Rattle.go_typexpr_core.specs.entry.Showing as EntryShowing
pub use Rattle.go_typexpr_core.specs.written.Written as WrittenWritten
