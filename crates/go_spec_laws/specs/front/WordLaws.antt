-- Which words are identifiers and keywords.
--
-- The Go specification, "Identifiers", "Keywords".
use Rattle.std.specs.Prelude.{◌≡◌, ◌↔◌, ℕ, true, List}
use Rattle.go_tree_nodes.specs.token_core.declared.kind.Keyword.{Keyword}
use Rattle.go_tree_nodes.specs.token_core.declared.kind.TokenKind.TheVariants as kinds
use Rattle.go_tree_nodes.specs.token_core.Spelling.{keyword_spelling}
use Rattle.go_scan_core.specs.Tokens.{IsLexeme}
use Rattle.go_block_core.specs.Words.{identifier, is_keyword}

-- the word is the spelling of a keyword
abbrev pub IsSpelling : List ℕ → Type 0
IsSpelling word = (k : Keyword) × (word ≡ keyword_spelling k)

-- what is taken for an identifier or a keyword is one
pub record IdentifiersAreWords : Type 0 where
  -- the words that are taken for identifiers are the lexemes that are identifiers
  pub identifiers : (word : List ℕ) → identifier word ≡ true ↔ IsLexeme kinds.Identifier word
  -- the words that are taken for keywords are the spellings of keywords
  pub keywords : (word : List ℕ) → is_keyword word ≡ true ↔ IsSpelling word
