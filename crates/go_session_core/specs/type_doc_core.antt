-- What the crates above name of go_type_doc_core.
pub use Rattle.go_type_doc_core.proofs.Blocked as Blocked
pub use Rattle.go_type_doc_core.proofs.Known as Known
pub use Rattle.go_type_doc_core.specs.declared as declared
pub use Rattle.go_type_doc_core.specs.mirrors as mirrors
