-- Tokens as trees write them: with the spelling of each name and the value of each literal.
use Rattle.std.specs.Prelude.{ℕ, ◌+◌, ◌≤◌, nat_le, List, [], ◌∷◌, map, Option, Some, None, if◌then◌else◌}
use Rattle.go_token_core.specs.text_core.declared.span.Span.{Span}
use Rattle.go_token_core.specs.text_core.Slices.{slice_of}
use Rattle.go_token_core.specs.declared.kind.Keyword.{Keyword}
use Rattle.go_token_core.specs.declared.kind.Operator.{Operator}
use Rattle.go_token_core.specs.declared.kind.Operator.TheVariants as operator
use Rattle.go_token_core.specs.declared.kind.TokenKind.{TokenKind}
use Rattle.go_token_core.specs.declared.kind.TokenKind.TheVariants as token
use Rattle.go_token_core.specs.declared.token.Token.{Token}
use Rattle.go_token_core.specs.Numbers.{integer_value_of}
use Rattle.go_token_core.specs.Values.{string_value_of}
use Rattle.std.specs.Str.{chars}
use Rattle.go_tree_nodes.specs.declared.names.TextLiteral.{TextLiteral}

-- a name and a string literal with their spelling, an integer literal with its value, a keyword, an operator
-- or a punctuation mark; and a token that is no piece of its text, which no tree writes
pub data TerminalKind : Type 0 where
  Spelled : List ℕ → TerminalKind
  Number : ℕ → TerminalKind
  Quoted : List ℕ → TerminalKind
  Word : Keyword → TerminalKind
  Mark : Operator → TerminalKind
  Stray : TerminalKind

pub record Terminal : Type 0 where
  pub kind : TerminalKind
  pub span : Span

abbrev pub terminal : TerminalKind → Span → Terminal
terminal k s = record { kind = k; span = s }

abbrev pub name_kind : Option (List ℕ) → TerminalKind
name_kind None = Stray
name_kind (Some name) = Spelled name

-- an integer literal has its value, which is below 2^63
abbrev pub number_kind : Option (List ℕ) → TerminalKind
number_kind None = Stray
number_kind (Some digits) = if nat_le (integer_value_of digits) 9223372036854775807 then Number (integer_value_of digits) else Stray

abbrev pub text_kind : Option (List ℕ) → TerminalKind
text_kind None = Stray
text_kind (Some spelled) = Quoted spelled

-- the kind of a token that stands here in a text
abbrev pub kind_at : List ℕ → Span → TokenKind → TerminalKind
kind_at text span token.Identifier = name_kind (slice_of text span)
kind_at text span token.Integer = number_kind (slice_of text span)
kind_at text span token.String = text_kind (slice_of text span)
kind_at text span (token.Keyword k) = Word k
kind_at text span (token.Operator o) = Mark o

-- the bytes that a string literal stands for
abbrev pub value_of : TextLiteral → List ℕ
value_of t = string_value_of (chars t.spelled)

-- a token of a text, with its spelling where it is a name or a string literal, and its value where it is an integer literal
abbrev pub terminal_of : List ℕ → Token → Terminal
terminal_of text t = terminal (kind_at text t.span t.kind) t.span

abbrev pub terminals : List ℕ → List Token → List Terminal
terminals text ts = map (terminal_of text) ts

-- the fewest bytes of a token: a semicolon alone may have none, where a line's end stands for it
abbrev pub least_width_of : Operator → ℕ
least_width_of operator.Semicolon = 0
least_width_of _ = 1

abbrev pub least_width : TerminalKind → ℕ
least_width (Mark o) = least_width_of o
least_width _ = 1

-- the spans follow one another between two offsets
abbrev pub InOrder : ℕ → List Terminal → ℕ → Type 0
InOrder low [] high = low ≤ high
InOrder low (t ∷ ts) high = (low ≤ t.span.start) × (t.span.start + least_width t.kind ≤ t.span.end) × InOrder t.span.end ts high
