-- What the crates above name of go_table_core.
pub use Rattle.go_table_core.specs.Assign as Assign
pub use Rattle.go_table_core.specs.Entries as Entries
pub use Rattle.go_table_core.proofs.Keys as Keys
pub use Rattle.go_table_core.specs.Laws as Laws
pub use Rattle.go_table_core.proofs.Listing as Listing
pub use Rattle.go_table_core.proofs.Meanings as Meanings
pub use Rattle.go_table_core.specs.MemberNames as MemberNames
pub use Rattle.go_table_core.specs.Methods as Methods
pub use Rattle.go_table_core.specs.Nesting as Nesting
pub use Rattle.go_table_core.specs.Shown as Shown
pub use Rattle.go_table_core.specs.Tables as Tables
pub use Rattle.go_table_core.specs.codes as codes
pub use Rattle.go_table_core.specs.declared as declared
