-- What the crates above name of go_text_core.
pub use Rattle.go_text_core.specs.Text as Text
pub use Rattle.go_text_core.specs.declared as declared
