-- What the crates above name of go_table_core.
pub use Rattle.go_embed_core.specs.table_core.Assign as Assign
pub use Rattle.go_embed_core.specs.table_core.Entries as Entries
pub use Rattle.go_embed_core.specs.table_core.Laws as Laws
pub use Rattle.go_embed_core.specs.table_core.Meanings as Meanings
