-- Steps of the cutting of a text.
use Rattle.std.proofs.Common.{◌≡◌, ℕ, zero, suc, ◌+◌, ◌-◌, ◌<◌, ◌≤◌, Bool, true, false, cond, ◌==◌, List, [], ◌∷◌, ◌++◌, length, take, drop, Option, Some, None, Result, Ok, Err, refl, sym, ap, ◌∙◌, subst, arith, rules}
use Rattle.std.specs.Char.{len_utf8}
use Rattle.go_token_core.proofs.CharacterLemmas.{width-cons}
use Rattle.go_token_core.specs.text_core.declared.rule.Rule.{Rule}
use Rattle.go_token_core.specs.declared.kind.CommentKind.{CommentKind}
use Rattle.go_token_core.specs.declared.kind.TokenKind.{TokenKind}
use Rattle.go_scan_core.specs.declared.piece.Piece.{Piece}
use Rattle.go_scan_core.specs.declared.piece.Piece.TheVariants.{Space, LineEnd, Lexeme, Remark}
use Rattle.go_token_core.specs.declared.token.Comment.{Comment}
use Rattle.go_token_core.specs.declared.token.LexFault.{LexFault}
use Rattle.go_token_core.specs.declared.token.Token.{Token}
use Rattle.go_token_core.specs.Characters.{first_passes}
use Rattle.go_scan_core.specs.Parts.{Break, Gap, Note, TextPart, Word, comments_in, holds_line_end, span_between, semicolon_after, width}
use Rattle.go_scan_core.specs.mirrors.Cutting.{close, closed, cut, cut_next, part_of, remarked, with_front}
use Rattle.go_scan_core.specs.mirrors.Reading.{piece_at}
use borrow.Author.Tests.{tests}
use Rattle.std.proofs.lemmas.List.{append-nil, append_assoc}
use Rattle.go_scan_core.proofs.PieceLemmas.{IsSound, piece_sound}

-- a piece is not empty and lies in the text
pub piece_within : (cs : List ℕ) (x : Piece × ℕ) → 0 < length cs → piece_at cs ≡ Ok x → (0 < x.1) × (x.1 ≤ length cs)
piece_within cs x some e = let sound = subst (IsSound cs) e (piece_sound cs some) in (sound.1, sound.2)

-- and so does what stands before the place of a fault
pub fault_within : (cs : List ℕ) (x : Rule × ℕ) → 0 < length cs → piece_at cs ≡ Err x → x.1 ≤ length cs
fault_within cs x some e = let sound = subst (IsSound cs) e (piece_sound cs some) in sound.1

-- to skip is to drop
pub cut-skip : (cs : List ℕ) (skip start : ℕ) → skip ≤ length cs → cut cs skip start ≡ cut (drop skip cs) 0 (start + width (take skip cs))
unfolding cut
cut-skip [] zero start h = refl
cut-skip [] (suc skip) start h = absurd (omega arith)
cut-skip (c ∷ cs) zero start h = let e : start ≡ start + 0 = omega arith in ap (cut (c ∷ cs) 0) e
cut-skip (c ∷ cs) (suc skip) start h =
    let e : start + len_utf8 c + width (take skip cs) ≡ start + width (c ∷ take skip cs) = omega (arith, width-cons c (take skip cs)) in
    cut-skip cs skip (start + len_utf8 c) (omega arith) ∙ ap (cut (drop skip cs) 0) e

-- a piece at the front, and the pieces behind it
pub cut_step : (cs : List ℕ) (start : ℕ) (x : Piece × ℕ) → 0 < length cs → piece_at cs ≡ Ok x → cut cs 0 start ≡ with_front (part_of x.0 (span_between start (start + width (take x.1 cs))) (take x.1 cs) ∷ []) (cut (drop x.1 cs) 0 (start + width (take x.1 cs)))
cut_step [] start x some e = absurd (omega arith)
cut_step (c ∷ cs) start (k, zero) some e = absurd (let h = piece_within (c ∷ cs) (k, zero) some e in omega arith)
cut_step (c ∷ cs) start (k, suc n) some e = unfold cut in
    let inside = (piece_within (c ∷ cs) (k, suc n) some e).1 in
    let skip : suc n - 1 ≡ n = omega arith in
    let far : start + len_utf8 c + width (take n cs) ≡ start + width (c ∷ take n cs) = omega (arith, width-cons c (take n cs)) in
    let rest : cut cs (suc n - 1) (start + len_utf8 c) ≡ cut (drop n cs) 0 (start + width (c ∷ take n cs)) =
    ap (λ m. cut cs m (start + len_utf8 c)) skip ∙ cut-skip cs n (start + len_utf8 c) (omega arith) ∙ ap (cut (drop n cs) 0) far in
    ap (λ r. cut_next r start (c ∷ cs) (λ m. cut cs m (start + len_utf8 c))) e
    ∙ ap (with_front (part_of k (span_between start (start + width (c ∷ take n cs))) (c ∷ take n cs) ∷ [])) rest

-- a fault at the front
pub cut_fault : (cs : List ℕ) (start : ℕ) (x : Rule × ℕ) → 0 < length cs → piece_at cs ≡ Err x → cut cs 0 start ≡ Err (record { rule = x.0; offset = start + width (take x.1 cs) })
cut_fault [] start x h e = absurd (omega arith)
cut_fault (c ∷ cs) start x h e = unfold cut in ap (λ r. cut_next r start (c ∷ cs) (λ m. cut cs m (start + len_utf8 c))) e

pub with_front-with_front : {X E : Type 0} (xs ys : List X) (r : Result (List X) E) → with_front xs (with_front ys r) ≡ with_front (xs ++ ys) r
with_front-with_front xs ys (Ok zs) = ap Ok (sym (append_assoc xs ys zs))
with_front-with_front xs ys (Err e) = refl

-- one part more
pub closed_gap : (last : Option Token) (r : Result (List TextPart) LexFault) → closed last (with_front (Gap ∷ []) r) ≡ closed last r
unfolding close
closed_gap last (Ok ps) = refl
closed_gap last (Err e) = refl

closed_break : (last : Option Token) (r : Result (List TextPart) LexFault) → closed last (with_front (Break ∷ []) r) ≡ with_front (semicolon_after last) (closed None r)
unfolding close
closed_break last (Ok ps) = refl
closed_break last (Err e) = refl

closed_word : (t : Token) (last : Option Token) (r : Result (List TextPart) LexFault) → closed last (with_front (Word t ∷ []) r) ≡ with_front (t ∷ []) (closed (Some t) r)
unfolding close
closed_word t last (Ok ps) = refl
closed_word t last (Err e) = refl

pub with_none : {X E : Type 0} (r : Result (List X) E) → r ≡ with_front [] r
with_none (Ok xs) = refl
with_none (Err e) = refl

closed_note : (c : Comment) (b : Bool) (last : Option Token) (r : Result (List TextPart) LexFault) → closed last (with_front (Note c b ∷ []) r) ≡ with_front (cond b (semicolon_after last) []) (closed (cond b None last) r)
unfolding close
closed_note c true last (Ok ps) = refl
closed_note c true last (Err e) = refl
closed_note c false last (Ok ps) = refl
closed_note c false last (Err e) = refl

-- the comments of one part
abbrev pub comments_of_part : TextPart → List Comment
comments_of_part Gap = []
comments_of_part Break = []
comments_of_part (Word t) = []
comments_of_part (Note c b) = c ∷ []

pub remarked_part : (p : TextPart) (r : Result (List TextPart) LexFault) → remarked (with_front (p ∷ []) r) ≡ with_front (comments_of_part p) (remarked r)
unfolding comments_in
remarked_part Gap (Ok ps) = refl
remarked_part Break (Ok ps) = refl
remarked_part (Word t) (Ok ps) = refl
remarked_part (Note c b) (Ok ps) = refl
remarked_part Gap (Err e) = refl
remarked_part Break (Err e) = refl
remarked_part (Word t) (Err e) = refl
remarked_part (Note c b) (Err e) = refl

-- ---- what a turn of the scanner's loop keeps

abbrev pub far_of : ℕ → List ℕ → Piece × ℕ → ℕ
far_of start cs x = start + width (take x.1 cs)

-- the place behind a piece, as the program has it
pub turned : {X : Type 0} (f : List ℕ → ℕ → X) (at : ℕ) (cs front back : List ℕ) (n w : ℕ) → w ≡ width front → front ≡ take n cs → back ≡ drop n cs → f back (at + w) ≡ f (drop n cs) (at + width (take n cs))
turned f at cs front back n w is first rest = ap (λ r. f r (at + w)) rest ∙ ap (λ w. f (drop n cs) (at + w)) (is ∙ ap width first)

abbrev pub token_between : TokenKind → ℕ → ℕ → Token
token_between kind start end = record { kind = kind; span = span_between start end }

pub turn_space : (tokens : List Token) (last : Option Token) (cs : List ℕ) (start : ℕ) (x : Piece × ℕ) → 0 < length cs → piece_at cs ≡ Ok x → x.0 ≡ Space → with_front tokens (closed last (cut (drop x.1 cs) 0 (far_of start cs x))) ≡ with_front tokens (closed last (cut cs 0 start))
turn_space tokens last cs start x some e s =
    let far = far_of start cs x in
    let rest = cut (drop x.1 cs) 0 far in
    ap (with_front tokens) (sym (ap (closed last) (cut_step cs start x some e ∙ ap (λ p. with_front (part_of p (span_between start far) (take x.1 cs) ∷ []) rest) s) ∙ closed_gap last rest))

pub turn_line : (tokens : List Token) (last : Option Token) (cs : List ℕ) (start : ℕ) (x : Piece × ℕ) → 0 < length cs → piece_at cs ≡ Ok x → x.0 ≡ LineEnd → with_front (tokens ++ semicolon_after last) (closed None (cut (drop x.1 cs) 0 (far_of start cs x))) ≡ with_front tokens (closed last (cut cs 0 start))
turn_line tokens last cs start x some e s =
    let far = far_of start cs x in
    let rest = cut (drop x.1 cs) 0 far in
    sym (with_front-with_front tokens (semicolon_after last) (closed None rest)) ∙ ap (with_front tokens) (sym (ap (closed last) (cut_step cs start x some e ∙ ap (λ p. with_front (part_of p (span_between start far) (take x.1 cs) ∷ []) rest) s) ∙ closed_break last rest))

pub turn_word : (tokens : List Token) (last : Option Token) (cs : List ℕ) (start : ℕ) (x : Piece × ℕ) (kind : TokenKind) → 0 < length cs → piece_at cs ≡ Ok x → x.0 ≡ Lexeme kind → with_front (tokens ++ record { kind = kind; span = span_between start (far_of start cs x) } ∷ []) (closed (Some (record { kind = kind; span = span_between start (far_of start cs x) })) (cut (drop x.1 cs) 0 (far_of start cs x))) ≡ with_front tokens (closed last (cut cs 0 start))
turn_word tokens last cs start x kind some e s =
    let far = far_of start cs x in
    let rest = cut (drop x.1 cs) 0 far in
    let t : Token = record { kind = kind; span = span_between start far } in
    sym (with_front-with_front tokens (t ∷ []) (closed (Some t) rest)) ∙ ap (with_front tokens) (sym (ap (closed last) (cut_step cs start x some e ∙ ap (λ p. with_front (part_of p (span_between start far) (take x.1 cs) ∷ []) rest) s) ∙ closed_word t last rest))

pub turn_note : (tokens : List Token) (last : Option Token) (cs : List ℕ) (start : ℕ) (x : Piece × ℕ) (kind : CommentKind) → 0 < length cs → piece_at cs ≡ Ok x → x.0 ≡ Remark kind → with_front (tokens ++ cond (holds_line_end (take x.1 cs)) (semicolon_after last) []) (closed (cond (holds_line_end (take x.1 cs)) None last) (cut (drop x.1 cs) 0 (far_of start cs x))) ≡ with_front tokens (closed last (cut cs 0 start))
turn_note tokens last cs start x kind some e s =
    let far = far_of start cs x in
    let rest = cut (drop x.1 cs) 0 far in
    let b = holds_line_end (take x.1 cs) in
    let c : Comment = record { kind = kind; span = span_between start far } in
    sym (with_front-with_front tokens (cond b (semicolon_after last) []) (closed (cond b None last) rest)) ∙ ap (with_front tokens) (sym (ap (closed last) (cut_step cs start x some e ∙ ap (λ p. with_front (part_of p (span_between start far) (take x.1 cs) ∷ []) rest) s) ∙ closed_note c b last rest))

-- the comments of a turn
pub turn_comments : (comments : List Comment) (cs : List ℕ) (start : ℕ) (x : Piece × ℕ) (p : TextPart) → 0 < length cs → piece_at cs ≡ Ok x → part_of x.0 (span_between start (far_of start cs x)) (take x.1 cs) ≡ p → with_front (comments ++ comments_of_part p) (remarked (cut (drop x.1 cs) 0 (far_of start cs x))) ≡ with_front comments (remarked (cut cs 0 start))
turn_comments comments cs start x p some e s =
    let rest = cut (drop x.1 cs) 0 (far_of start cs x) in
    sym (with_front-with_front comments (comments_of_part p) (remarked rest)) ∙ ap (with_front comments) (sym (ap remarked (cut_step cs start x some e ∙ ap (λ q. with_front (q ∷ []) rest) s) ∙ remarked_part p rest))

pub turn_no_comments : (comments : List Comment) (cs : List ℕ) (start : ℕ) (x : Piece × ℕ) (p : TextPart) → 0 < length cs → piece_at cs ≡ Ok x → part_of x.0 (span_between start (far_of start cs x)) (take x.1 cs) ≡ p → comments_of_part p ≡ [] → with_front comments (remarked (cut (drop x.1 cs) 0 (far_of start cs x))) ≡ with_front comments (remarked (cut cs 0 start))
turn_no_comments comments cs start x p some e s none =
    let rest = cut (drop x.1 cs) 0 (far_of start cs x) in
    ap (with_front comments) (with_none (remarked rest) ∙ ap (λ q. with_front q (remarked rest)) (sym none) ∙ sym (ap remarked (cut_step cs start x some e ∙ ap (λ q. with_front (q ∷ []) rest) s) ∙ remarked_part p rest))

-- at a fault, and at the end
pub turn_fault : (tokens : List Token) (last : Option Token) (cs : List ℕ) (start : ℕ) (x : Rule × ℕ) → 0 < length cs → piece_at cs ≡ Err x → with_front tokens (closed last (cut cs 0 start)) ≡ Err (record { rule = x.0; offset = start + width (take x.1 cs) })
turn_fault tokens last cs start x some e = ap (λ r. with_front tokens (closed last r)) (cut_fault cs start x some e)

pub turn_comments_fault : (comments : List Comment) (cs : List ℕ) (start : ℕ) (x : Rule × ℕ) → 0 < length cs → piece_at cs ≡ Err x → with_front comments (remarked (cut cs 0 start)) ≡ Err (record { rule = x.0; offset = start + width (take x.1 cs) })
turn_comments_fault comments cs start x some e = ap (λ r. with_front comments (remarked r)) (cut_fault cs start x some e)

pub turn_end : (tokens : List Token) (last : Option Token) (cs : List ℕ) (start : ℕ) → length cs ≡ 0 → with_front tokens (closed last (cut cs 0 start)) ≡ Ok (tokens ++ semicolon_after last)
turn_end tokens last [] start e = unfold cut in unfold close in refl
turn_end tokens last (c ∷ cs) start e = absurd (omega arith)

pub turn_comments_end : (comments : List Comment) (cs : List ℕ) (start : ℕ) → length cs ≡ 0 → with_front comments (remarked (cut cs 0 start)) ≡ Ok comments
turn_comments_end comments [] start e = unfold cut in unfold comments_in in ap Ok (append-nil comments)
turn_comments_end comments (c ∷ cs) start e = absurd (omega arith)

-- what follows a mark of three bytes
pub width_behind_mark : (cs : List ℕ) → first_passes (λ c. c == 65279) cs ≡ true → 3 + width (drop 1 cs) ≡ width cs
width_behind_mark [] h = cc
width_behind_mark (c ∷ cs) h =
    let mark : c ≡ 65279 = search (rules, tests) in
    let three : len_utf8 c ≡ 3 = ap len_utf8 mark in
    omega (arith, width-cons c cs, three)
