-- The piece of a text that a token covers.
use Rattle.std.specs.Prelude.{◌≡◌, ℕ, ◌<◌, ◌≤◌, ◌⊎◌, List, [], encode_utf8_all, MatchOption}
use Rattle.go_token_core.specs.text_core.Slices.{slice_of}
use Rattle.go_token_core.specs.declared.kind.TokenKind.{TokenKind}
use Rattle.go_token_core.specs.declared.kind.TokenKind.TheVariants as kinds
use Rattle.go_token_core.specs.declared.kind.Operator.TheVariants as operators
use Rattle.go_token_core.specs.declared.token.Token.{Token}
use Rattle.go_token_core.specs.declared.kind.CommentKind.{CommentKind}
use Rattle.go_token_core.specs.declared.token.Comment.{Comment}
use Rattle.go_token_core.specs.Numbers.{integer_value_of}
use Rattle.go_scan_core.specs.Tokens.{IsComment, IsLexeme}

-- the value of an integer literal is at most 2^63 - 1
abbrev pub IsInReach : TokenKind → List ℕ → Type 0
IsInReach kinds.Identifier bytes = Unit {0}
IsInReach kinds.Integer bytes = integer_value_of bytes ≤ 9223372036854775807
IsInReach kinds.String bytes = Unit {0}
IsInReach (kinds.Keyword k) bytes = Unit {0}
IsInReach (kinds.Operator o) bytes = Unit {0}

-- the bytes are a lexeme of this kind in UTF-8
abbrev pub IsEncodedLexeme : TokenKind → List ℕ → Type 0
IsEncodedLexeme kind bytes = (w : List ℕ) × IsLexeme kind w × (encode_utf8_all w ≡ bytes) × IsInReach kind bytes

-- a token of this kind may cover these bytes: a lexeme of the kind, or none where the end of a
-- line stands for a semicolon
abbrev pub IsSpelled : TokenKind → List ℕ → Type 0
IsSpelled kind bytes = IsEncodedLexeme kind bytes ⊎ ((kind ≡ kinds.Operator operators.Semicolon) × (bytes ≡ []))

-- the token covers a piece of the text, between characters, and this is its spelling
abbrev pub HasItsText : List ℕ → Token → Type 0
HasItsText text t = MatchOption (slice_of text t.span) ⊥ (IsSpelled t.kind)

-- the token is not empty, or it is a semicolon
abbrev pub IsFilled : Token → Type 0
IsFilled t = (t.span.start < t.span.end) ⊎ ((t.kind ≡ kinds.Operator operators.Semicolon) × (t.span.start ≤ t.span.end))

-- the comment covers a piece of the text, between characters, and this is a comment of its kind
abbrev pub IsEncodedComment : CommentKind → List ℕ → Type 0
IsEncodedComment kind bytes = (w : List ℕ) × IsComment kind w × (encode_utf8_all w ≡ bytes)

abbrev pub CommentHasItsText : List ℕ → Comment → Type 0
CommentHasItsText text c = MatchOption (slice_of text c.span) ⊥ (IsEncodedComment c.kind)
