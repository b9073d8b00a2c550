-- What the crates above name of go_table_core.
pub use Rattle.go_env_core.specs.table_core.Entries as Entries
pub use Rattle.go_env_core.specs.table_core.Methods as Methods
