-- What the crates above name of go_text_core.
pub use Rattle.go_text_core.proofs.Each as Each
pub use Rattle.go_text_core.specs.Text as Text
pub use Rattle.go_text_core.specs.contracts as contracts
pub use Rattle.go_text_core.specs.declared as declared
