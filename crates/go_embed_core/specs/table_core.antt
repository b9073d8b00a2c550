-- What the crates above name of go_table_core.
pub use Rattle.go_type_core.specs.table_core.Assign as Assign
pub use Rattle.go_type_core.specs.table_core.Entries as Entries
pub use Rattle.go_type_core.specs.table_core.Keys as Keys
pub use Rattle.go_type_core.specs.table_core.Laws as Laws
pub use Rattle.go_type_core.specs.table_core.Meanings as Meanings
pub use Rattle.go_type_core.specs.table_core.Nesting as Nesting
pub use Rattle.go_type_core.specs.table_core.codes as codes
