-- What the crates above name of go_table_core.
pub use Rattle.go_table_core.specs.Assign as Assign
pub use Rattle.go_table_core.proofs.ByRule as ByRule
pub use Rattle.go_table_core.specs.Entries as Entries
pub use Rattle.go_table_core.proofs.Finding as Finding
pub use Rattle.go_table_core.proofs.Keys as Keys
pub use Rattle.go_table_core.specs.Laws as Laws
pub use Rattle.go_table_core.proofs.Meanings as Meanings
pub use Rattle.go_table_core.specs.Methods as Methods
pub use Rattle.go_table_core.specs.Tables as Tables
