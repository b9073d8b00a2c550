-- What the crates above name of go_query_core.
pub use Rattle.go_type_doc_core.specs.query_core.Entries as Entries
pub use Rattle.go_type_doc_core.specs.query_core.declared as declared
