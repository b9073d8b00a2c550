-- What the crates above name of go_token_core.
pub use Rattle.go_token_core.proofs.CharacterLemmas as CharacterLemmas
pub use Rattle.go_token_core.specs.Characters as Characters
pub use Rattle.go_token_core.proofs.Choices as Choices
pub use Rattle.go_token_core.proofs.EscapeLemmas as EscapeLemmas
pub use Rattle.go_token_core.specs.Escapes as Escapes
pub use Rattle.go_token_core.specs.Numbers as Numbers
pub use Rattle.go_token_core.specs.Spelling as Spelling
pub use Rattle.go_token_core.specs.Values as Values
pub use Rattle.go_token_core.specs.contracts as contracts
pub use Rattle.go_token_core.specs.declared as declared
