-- What the crates above name of go_decl_core.
pub use Rattle.go_term_core.specs.decl_core.declared as declared
