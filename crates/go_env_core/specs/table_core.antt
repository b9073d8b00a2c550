-- What the crates above name of go_table_core.
pub use Rattle.go_table_core.specs.Entries as Entries
pub use Rattle.go_table_core.specs.Methods as Methods
