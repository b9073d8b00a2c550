-- The parts of a text, and what asks for semicolons.
use Rattle.std.specs.Prelude.{true, false, ℕ, Bool, ◌==◌, if◌then◌else◌, List, [], ◌∷◌, Option, Some, None}
use Rattle.std.specs.Char.{len_utf8}
use Rattle.std.specs.List.{list_any, sum_by}
use Rattle.go_token_core.specs.text_core.declared.span.Span.{Span}
use Rattle.go_token_core.specs.declared.kind.TokenKind.{TokenKind}
use Rattle.go_token_core.specs.declared.kind.TokenKind.TheVariants as kinds
use Rattle.go_token_core.specs.declared.kind.Operator.TheVariants as operators
use Rattle.go_token_core.specs.declared.kind.Keyword.TheVariants as keywords
use Rattle.go_token_core.specs.declared.token.Token.{Token}
use Rattle.go_token_core.specs.declared.kind.Keyword.{Keyword}
use Rattle.go_token_core.specs.declared.kind.Operator.{Operator}
use Rattle.go_token_core.specs.declared.token.Comment.{Comment}

-- how many bytes characters take
abbrev pub width : List ℕ → ℕ
width cs = sum_by len_utf8 cs

-- the end of a line is among the characters
abbrev pub holds_line_end : List ℕ → Bool
holds_line_end cs = list_any (λ c. c == 10) cs

abbrev pub span_between : ℕ → ℕ → Span
span_between start end = record { start = start; end = end }

-- a piece of a text: white space, the end of a line, a token, or a comment and whether the end of
-- a line is in it
pub data TextPart : Type 0 where
  Gap : TextPart
  Break : TextPart
  Word : Token → TextPart
  Note : Comment → Bool → TextPart

abbrev pub ending_keyword : Keyword → Bool
ending_keyword keywords.Break = true
ending_keyword keywords.Continue = true
ending_keyword keywords.Fallthrough = true
ending_keyword keywords.Return = true
ending_keyword _ = false

abbrev pub ending_operator : Operator → Bool
ending_operator operators.Increment = true
ending_operator operators.Decrement = true
ending_operator operators.CloseParen = true
ending_operator operators.CloseBracket = true
ending_operator operators.CloseBrace = true
ending_operator _ = false

-- what asks for a semicolon at the end of its line
abbrev pub ends_statement : TokenKind → Bool
ends_statement kinds.Identifier = true
ends_statement kinds.Integer = true
ends_statement kinds.String = true
ends_statement (kinds.Keyword k) = ending_keyword k
ends_statement (kinds.Operator o) = ending_operator o

-- the empty semicolon at the end of a token
abbrev pub semicolon_behind : Token → Token
semicolon_behind t = record { kind = kinds.Operator operators.Semicolon; span = span_between t.span.end t.span.end }

-- the semicolon that a line's last token asks for
abbrev pub semicolon_after : Option Token → List Token
semicolon_after None = []
semicolon_after (Some t) = if ends_statement t.kind then semicolon_behind t ∷ [] else []

-- the comments of the pieces
unfoldable pub comments_in : List TextPart → List Comment
comments_in [] = []
comments_in (Note c breaks ∷ ps) = c ∷ comments_in ps
comments_in (Gap ∷ ps) = comments_in ps
comments_in (Break ∷ ps) = comments_in ps
comments_in (Word t ∷ ps) = comments_in ps
