-- Each name and literal of a text, and each occurrence of its tree, is spelled as the text has it.
use Rattle.std.specs.Prelude.{◌≡◌, ℕ, List, All, Some, Ok}
use Rattle.std.specs.Str.{IsUtf8}
use Rattle.go_tree_nodes.specs.text_core.declared.span.Span.{Span}
use Rattle.go_tree_nodes.specs.text_core.Slices.{slice_of}
use Rattle.go_tree_nodes.specs.token_core.declared.token.Token.{Token}
use Rattle.go_tree_nodes.specs.token_core.Numbers.{integer_value_of}
use Rattle.go_scan_core.specs.Tokens.{IsAnswer}
use Rattle.go_tree_nodes.specs.Terminals.{TerminalKind, Spelled, Number, Quoted, Word, Mark, Stray, Terminal, terminals}
use Rattle.go_tree_nodes.specs.Trees.{FileTree}
use Rattle.go_tree_core.specs.declared.occurrence.Role.{Role}
use Rattle.go_tree_core.specs.declared.occurrence.Role.TheVariants as role
use Rattle.go_tree_core.specs.declared.occurrence.Occ.{Occ}
use Rattle.go_tree_core.specs.Occurrences.{file_occs}
use Rattle.go_parse_core.specs.Correct.{HasTree}

-- a name and a string literal are spelled as the text has it at their place, quotes included, and an integer literal has the value of
-- the digits there; no token is a stray
abbrev pub IsSpelledAt : List ℕ → Span → TerminalKind → Type 0
IsSpelledAt text span (Spelled name) = slice_of text span ≡ Some name
IsSpelledAt text span (Number n) = (digits : List ℕ) × (slice_of text span ≡ Some digits) × (integer_value_of digits ≡ n)
IsSpelledAt text span (Quoted literal) = slice_of text span ≡ Some literal
IsSpelledAt text span (Word k) = Unit {0}
IsSpelledAt text span (Mark o) = Unit {0}
IsSpelledAt text span Stray = ⊥

abbrev pub HasSpelling : List ℕ → Terminal → Type 0
HasSpelling text t = IsSpelledAt text t.span t.kind

-- so it is with all tokens of a text in UTF-8
abbrev pub HasNamesSpelled : Type 0
HasNamesSpelled = (text : List ℕ) (tokens : List Token) → IsUtf8 text → IsAnswer text (Ok tokens) → All (HasSpelling text) (terminals text tokens)

-- an identifier and an import's string are spelled as the text has them at their place, an import with its quotes
abbrev pub IsRoleSpelled : List ℕ → Role → Span → List ℕ → Type 0
IsRoleSpelled text role.Call span spelling = Unit {0}
IsRoleSpelled text _ span spelling = slice_of text span ≡ Some spelling

abbrev pub IsOccurrenceSpelled : List ℕ → Occ → Type 0
IsOccurrenceSpelled text o = IsRoleSpelled text o.role o.span o.spelling

-- so it is with all occurrences of the tree of a text
abbrev pub HasOccurrencesSpelled : Type 0
HasOccurrencesSpelled = (text : List ℕ) (f : FileTree) → HasTree text f → All (IsOccurrenceSpelled text) (file_occs f)
