-- What the front of a text reads as: a piece and its characters, or a fault.
use Rattle.std.specs.Prelude.{ℕ, ◌||◌, nat_lt, nat_eq, if◌then◌else◌, List, length, take, drop, find, Option, Some, None, Result, Ok, Err}
use Rattle.std.specs.List.{prefix_len, starts_with}
use Rattle.std.specs.Str.{bytes_eq}
use Rattle.go_token_core.specs.text_core.declared.rule.Rule.{Rule}
use Rattle.go_token_core.specs.text_core.declared.rule.Rule.TheVariants.{L1, L3}
use Rattle.go_scan_core.specs.declared.enclosed.Enclosure.TheVariants.{General, Quoted, Raw}
use Rattle.go_scan_core.specs.declared.front.Front.{Front}
use Rattle.go_scan_core.specs.declared.front.Front.TheVariants as fronts
use Rattle.go_token_core.specs.declared.kind.CommentKind.TheVariants as remarks
use Rattle.go_token_core.specs.declared.kind.Keyword.{Keyword}
use Rattle.go_token_core.specs.declared.kind.Operator.{Operator}
use Rattle.go_token_core.specs.declared.kind.TokenKind.{TokenKind}
use Rattle.go_token_core.specs.declared.kind.TokenKind.TheVariants as kinds
use Rattle.go_token_core.specs.declared.kind.TheConstants.{KEYWORDS, OPERATORS}
use Rattle.go_scan_core.specs.declared.piece.Piece.{Piece}
use Rattle.go_scan_core.specs.declared.piece.Piece.TheVariants.{Space, LineEnd, Lexeme, Remark}
use Rattle.go_token_core.specs.Characters.{continues, first_passes, in_line, letter_or_digit}
use Rattle.go_token_core.specs.Numbers.{integer_value_of}
use Rattle.go_token_core.specs.Spelling.{keyword_spelling, operator_spelling}
use Rattle.go_scan_core.specs.mirrors.Enclosed.{enclosed_at}
use Rattle.go_scan_core.specs.mirrors.Front.{front_of}
use Rattle.go_scan_core.specs.mirrors.Numbers.{number_len}

unfoldable pub keyword_spelled : List ℕ → Option Keyword
keyword_spelled w = find (λ k. bytes_eq w (keyword_spelling k)) KEYWORDS

abbrev pub word_kind : Option Keyword → TokenKind
word_kind None = kinds.Identifier
word_kind (Some k) = kinds.Keyword k

unfoldable pub identifier_at : List ℕ → Piece × ℕ
identifier_at cs = let n = prefix_len letter_or_digit cs in (Lexeme (word_kind (keyword_spelled (take n cs))), n)

unfoldable pub integer_at : List ℕ → Result (Piece × ℕ) (Rule × ℕ)
integer_at cs = let n = number_len cs in if first_passes continues (drop n cs) || nat_lt 9223372036854775807 (integer_value_of (take n cs)) then Err (L3, 0) else Ok (Lexeme kinds.Integer, n)

unfoldable pub longest_operator : List ℕ → Option Operator
longest_operator cs = find (λ o. starts_with nat_eq cs (operator_spelling o)) OPERATORS

abbrev pub operator_read : Option Operator → Result (Piece × ℕ) (Rule × ℕ)
operator_read None = Err (L1, 0)
operator_read (Some o) = Ok (Lexeme (kinds.Operator o), length (operator_spelling o))

unfoldable pub operator_at : List ℕ → Result (Piece × ℕ) (Rule × ℕ)
operator_at cs = operator_read (longest_operator cs)

abbrev pub piece_from : Piece → Result ℕ (Rule × ℕ) → Result (Piece × ℕ) (Rule × ℕ)
piece_from piece (Ok n) = Ok (piece, n)
piece_from piece (Err fault) = Err fault

abbrev pub piece_by : Front → List ℕ → Result (Piece × ℕ) (Rule × ℕ)
piece_by fronts.Nothing cs = Err (L1, 0)
piece_by fronts.Space cs = Ok (Space, 1)
piece_by fronts.LineEnd cs = Ok (LineEnd, 1)
piece_by fronts.Quote cs = piece_from (Lexeme kinds.String) (enclosed_at Quoted cs)
piece_by fronts.Backquote cs = piece_from (Lexeme kinds.String) (enclosed_at Raw cs)
piece_by fronts.LineComment cs = Ok (Remark remarks.Line, prefix_len in_line cs)
piece_by fronts.GeneralComment cs = piece_from (Remark remarks.General) (enclosed_at General cs)
piece_by fronts.Refused cs = Err (L3, 0)
piece_by fronts.Letter cs = Ok (identifier_at cs)
piece_by fronts.Digit cs = integer_at cs
piece_by fronts.Other cs = operator_at cs

-- the piece at the front and its number of characters, or the rule that the front breaks and how
-- many characters stand before the place of the fault
unfoldable pub piece_at : List ℕ → Result (Piece × ℕ) (Rule × ℕ)
piece_at cs = piece_by (front_of cs) cs
