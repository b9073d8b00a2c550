-- A text cut into pieces from its front, and its tokens line by line.
use Rattle.std.specs.Prelude.{true, false, ℕ, zero, suc, ◌+◌, ◌-◌, ◌==◌, if◌then◌else◌, List, [], ◌∷◌, ◌++◌, take, drop, Option, Some, None, Result, Ok, Err}
use Rattle.std.specs.Char.{len_utf8}
use Rattle.std.specs.Str.{chars}
use Rattle.go_token_core.specs.text_core.declared.rule.Rule.{Rule}
use Rattle.go_token_core.specs.text_core.declared.span.Span.{Span}
use Rattle.go_scan_core.specs.declared.piece.Piece.{Piece}
use Rattle.go_scan_core.specs.declared.piece.Piece.TheVariants.{Space, LineEnd, Lexeme, Remark}
use Rattle.go_token_core.specs.declared.token.Token.{Token}
use Rattle.go_token_core.specs.declared.token.LexFault.{LexFault}
use Rattle.go_token_core.specs.declared.token.Comment.{Comment}
use Rattle.go_token_core.specs.Characters.{first_passes}
use Rattle.go_scan_core.specs.Parts.{Break, Gap, Note, TextPart, Word, comments_in, holds_line_end, span_between, semicolon_after, width}
use Rattle.go_scan_core.specs.mirrors.Reading.{piece_at}

abbrev pub fault_of : Rule → ℕ → LexFault
fault_of rule offset = record { rule = rule; offset = offset }

abbrev pub part_of : Piece → Span → List ℕ → TextPart
part_of Space place w = Gap
part_of LineEnd place w = Break
part_of (Lexeme kind) place w = Word (record { kind = kind; span = place })
part_of (Remark kind) place w = Note (record { kind = kind; span = place }) (holds_line_end w)

abbrev pub with_front : {X E : Type 0} → List X → Result (List X) E → Result (List X) E
with_front xs (Ok ys) = Ok (xs ++ ys)
with_front xs (Err e) = Err e

abbrev pub cut_next : Result (Piece × ℕ) (Rule × ℕ) → ℕ → List ℕ → (ℕ → Result (List TextPart) LexFault) → Result (List TextPart) LexFault
cut_next (Err x) start cs rest = Err (record { rule = x.0; offset = start + width (take x.1 cs) })
cut_next (Ok x) start cs rest = with_front (part_of x.0 (span_between start (start + width (take x.1 cs))) (take x.1 cs) ∷ []) (rest (x.1 - 1))

-- the pieces of the text behind its first `skip` characters, where it begins at this byte
unfoldable pub cut : List ℕ → ℕ → ℕ → Result (List TextPart) LexFault
cut [] skip start = Ok []
cut (c ∷ cs) (suc skip) start = cut cs skip (start + len_utf8 c)
cut (c ∷ cs) zero start = cut_next (piece_at (c ∷ cs)) start (c ∷ cs) (λ skip. cut cs skip (start + len_utf8 c))

-- the tokens of the pieces, where `last` is the last token so far of this line
unfoldable pub close : Option Token → List TextPart → List Token
close last [] = semicolon_after last
close last (Gap ∷ ps) = close last ps
close last (Break ∷ ps) = semicolon_after last ++ close None ps
close last (Word t ∷ ps) = t ∷ close (Some t) ps
close last (Note c true ∷ ps) = semicolon_after last ++ close None ps
close last (Note c false ∷ ps) = close last ps

abbrev pub closed : Option Token → Result (List TextPart) LexFault → Result (List Token) LexFault
closed last (Ok ps) = Ok (close last ps)
closed last (Err fault) = Err fault

abbrev pub remarked : Result (List TextPart) LexFault → Result (List Comment) LexFault
remarked (Ok ps) = Ok (comments_in ps)
remarked (Err fault) = Err fault

-- the pieces of a text, behind a byte order mark at its start
unfoldable pub parts_of : List ℕ → Result (List TextPart) LexFault
parts_of text = if first_passes (λ c. c == 65279) (chars text) then cut (drop 1 (chars text)) 0 3 else cut (chars text) 0 0
