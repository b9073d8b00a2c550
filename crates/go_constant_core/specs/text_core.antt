-- What the crates above name of go_text_core.
pub use Rattle.go_token_core.specs.text_core.Each as Each
pub use Rattle.go_token_core.specs.text_core.Slices as Slices
pub use Rattle.go_token_core.specs.text_core.Text as Text
pub use Rattle.go_token_core.specs.text_core.declared as declared
