-- Each token covers its own spelling.
use Rattle.std.proofs.Common.{◌≡◌, ℕ, ◌+◌, ◌-◌, ◌<◌, ◌≤◌, Bool, true, false, cond, ◌==◌, ◌||◌, ◌&&◌, inl, inr, List, [], ◌∷◌, ◌++◌, length, take, drop, Option, Some, None, Ok, refl, sym, ap, ◌∙◌, subst, arith, nat_le, nat_lt, is_some}
use Rattle.std.specs.Prelude.{encode_utf8_all, slice_index, slice_range, MatchOption}
use Rattle.std.specs.List.{All, AllByRecursion}
use Rattle.std.proofs.lemmas.List.Elements.{All-from_recursion}
use Rattle.std.specs.Str.{all_scalars, chars, IsCharBoundary, IsUtf8}
use Rattle.std.proofs.lemmas.Bool.Decides.{nat_tests}
use Rattle.std.proofs.lemmas.List.{append-nil, append_assoc, length-append, length-take}
use Rattle.std.proofs.lemmas.Str.{encodes-append, encodes-chars, IsCharBoundary-at_seam, length-le-encodes, scalars-chars}
use Rattle.go_token_core.specs.text_core.Boundaries.{is_boundary_of}
use Rattle.go_token_core.specs.text_core.Slices.{slice_of}
use Rattle.go_token_core.specs.text_core.declared.span.Span.{Span}
use Rattle.go_token_core.specs.declared.kind.TokenKind.{TokenKind}
use Rattle.go_token_core.specs.declared.token.Token.{Token}
use Rattle.go_token_core.specs.Characters.{first_passes}
use Rattle.go_scan_core.specs.Parts.{Break, Gap, Note, TextPart, Word, comments_in, ends_statement, span_between, semicolon_after, semicolon_behind, width}
use Rattle.go_scan_core.specs.mirrors.Cutting.{close}
use Rattle.go_scan_core.specs.Tokens.{AreTextParts, IsAnswer, IsAnswerFrom, IsAnswerOf, IsComment, IsGood, IsLexeme, tokens_by_line}
use Rattle.go_scan_core.specs.Texts.{CommentHasItsText, HasItsText, IsEncodedComment, IsFilled, IsSpelled}
use Rattle.go_scan_core.proofs.AnswerLemmas.{tokens_by_line-close}
use Rattle.go_token_core.proofs.Choices.{chosen}
use Rattle.go_scan_core.proofs.FrontLemmas.{and_true}
use Rattle.go_scan_core.proofs.LexemeLemmas.{keyword_word, operator_some}
use Rattle.go_token_core.proofs.CharacterLemmas.{width-encodes}
use Rattle.go_scan_core.proofs.ReachLemmas.{lexeme_in_reach}
use Rattle.go_scan_core.specs.declared.enclosed.Enclosure.{Enclosure}
use Rattle.go_scan_core.specs.declared.enclosed.Enclosure.TheVariants.{General, Quoted, Raw}
use Rattle.go_token_core.specs.declared.kind.TokenKind.TheVariants as kinds
use Rattle.go_token_core.specs.declared.token.Comment.{Comment}
use Rattle.go_scan_core.specs.Tokens.{IsEnclosed, IsWord}
use Rattle.go_token_core.specs.text_core.Text.{letter}
use Rattle.go_token_core.specs.text_core.Each.{true_or_false}

-- the characters begin at this byte of the text, and are the rest of it
record Begins (text cs : List ℕ) (start : ℕ) : Type 0 where
  front : List ℕ
  bytes : text ≡ front ++ encode_utf8_all cs
  place : start ≡ length front
  scalar : all_scalars cs ≡ true

scalars_behind : (w rest : List ℕ) → all_scalars (w ++ rest) ≡ true → all_scalars rest ≡ true
scalars_behind [] rest h = h
scalars_behind (c ∷ w) rest h = scalars_behind w rest (and_true _ _ h).1

onward : (text w rest : List ℕ) (start : ℕ) → Begins text (w ++ rest) start → Begins text rest (start + width w)
onward text w rest start b = record {
  front = b.front ++ encode_utf8_all w;
  bytes = b.bytes ∙ ap (λ x. b.front ++ x) (encodes-append w rest) ∙ sym (append_assoc b.front (encode_utf8_all w) (encode_utf8_all rest));
  place = omega (arith, b.place, width-encodes w, length-append b.front (encode_utf8_all w));
  scalar = scalars_behind w rest b.scalar;
}

boundary_test : (i n b : ℕ) → i ≤ n → (i < n → 128 ≤ b → 192 ≤ b) → (nat_le i n && (nat_le n i || nat_lt b 128 || nat_le 192 b)) ≡ true
boundary_test i n b inside lead = grind (arith, nat_tests)

begins_at_boundary : (text cs : List ℕ) (start : ℕ) → Begins text cs start → is_boundary_of text start ≡ true
begins_at_boundary text cs start b =
    let seam : IsCharBoundary text (length b.front) = IsCharBoundary-at_seam text b.front (encode_utf8_all cs) b.bytes (cs, (b.scalar, refl)) in
    let here : IsCharBoundary text start = subst (IsCharBoundary text) (sym b.place) seam in
    boundary_test start (length text) (slice_index text start) here.0 here.1

drop_front : (front rest : List ℕ) → drop (length front) (front ++ rest) ≡ rest
drop_front [] rest = refl
drop_front (c ∷ front) rest = drop_front front rest

take_front : (w rest : List ℕ) → take (length w) (w ++ rest) ≡ w
take_front [] rest = refl
take_front (c ∷ w) rest = ap (λ x. c ∷ x) (take_front w rest)

slice_between : (text front w rest : List ℕ) (start end : ℕ) → text ≡ front ++ (w ++ rest) → start ≡ length front → end ≡ start + length w → slice_range text start end ≡ w
slice_between text front w rest start end bytes place far =
    let size : end - start ≡ length w = omega arith in
    let behind : drop start text ≡ w ++ rest = ap (drop start) bytes ∙ ap (λ n. drop n (front ++ (w ++ rest))) place ∙ drop_front front (w ++ rest) in
    ap (λ n. take n (drop start text)) size ∙ ap (take (length w)) behind ∙ take_front w rest

is_slice : (text bytes : List ℕ) (start end : ℕ) → start ≤ end → is_boundary_of text start ≡ true → is_boundary_of text end ≡ true → slice_range text start end ≡ bytes → slice_of text (span_between start end) ≡ Some bytes
is_slice text bytes start end order low high same =
    let ordered : nat_le start end ≡ true = grind (arith, nat_tests) in
    rw (ordered, low, high) (ap Some same)

-- the characters at this byte are what a span of their width covers
slice_here : (text w rest : List ℕ) (start : ℕ) → Begins text (w ++ rest) start → slice_of text (span_between start (start + width w)) ≡ Some (encode_utf8_all w)
slice_here text w rest start b =
    let far = onward text w rest start b in
    let cut = slice_between text b.front (encode_utf8_all w) (encode_utf8_all rest) start (start + width w) (b.bytes ∙ ap (λ x. b.front ++ x) (encodes-append w rest)) b.place (omega (arith, width-encodes w)) in
    is_slice text (encode_utf8_all w) start (start + width w) (omega arith) (begins_at_boundary text (w ++ rest) start b) (begins_at_boundary text rest (start + width w) far) cut

from_slice : (text bytes : List ℕ) (t : Token) → slice_of text t.span ≡ Some bytes → IsSpelled t.kind bytes → HasItsText text t
from_slice text bytes t e h = subst (λ o. MatchOption o ⊥ (IsSpelled t.kind)) (sym e) h

word_text : (text w rest : List ℕ) (start : ℕ) (t : Token) → Begins text (w ++ rest) start → IsLexeme t.kind w → IsGood t.kind w rest → t.span ≡ span_between start (start + width w) → HasItsText text t
word_text text w rest start t b lexeme good place = from_slice text (encode_utf8_all w) t (ap (slice_of text) place ∙ slice_here text w rest start b) (inl (w, lexeme, refl, lexeme_in_reach t.kind w rest lexeme good))

-- an inserted semicolon covers nothing, where characters begin
semicolon_text : (text cs : List ℕ) (t : Token) → Begins text cs t.span.end → HasItsText text (semicolon_behind t)
semicolon_text text cs t b =
    let here = begins_at_boundary text cs t.span.end b in
    let cut = slice_between text b.front [] (encode_utf8_all cs) t.span.end t.span.end b.bytes b.place (omega arith) in
    from_slice text [] (semicolon_behind t) (is_slice text [] t.span.end t.span.end (omega arith) here here cut) (inr (refl, refl))

-- characters begin where the last token of the line ends
abbrev Ends : List ℕ → Option Token → Type 0
Ends text None = Unit {0}
Ends text (Some t) = (cs : List ℕ) × Begins text cs t.span.end

abbrev HaveTexts : List ℕ → List Token → Type 0
HaveTexts text ts = AllByRecursion (HasItsText text) ts

asked_texts : (b : Bool) (text : List ℕ) (t : Token) (ts : List Token) → Ends text (Some t) → HaveTexts text ts → HaveTexts text (cond b (semicolon_behind t ∷ []) [] ++ ts)
asked_texts true text t ts e h = (semicolon_text text e.0 t e.1, h)
asked_texts false text t ts e h = h

semicolon_texts : (text : List ℕ) (last : Option Token) (ts : List Token) → Ends text last → HaveTexts text ts → HaveTexts text (semicolon_after last ++ ts)
semicolon_texts text None ts e h = h
semicolon_texts text (Some t) ts e h = asked_texts (ends_statement t.kind) text t ts e h

part_texts : (text : List ℕ) (ps : List TextPart) (cs : List ℕ) (start : ℕ) (last : Option Token) → Begins text cs start → Ends text last → AreTextParts ps cs start None → HaveTexts text (close last ps)
unfolding close
part_texts text [] cs start last b e a = subst (HaveTexts text) (append-nil (semicolon_after last)) (semicolon_texts text last [] e tt)
part_texts text (Gap ∷ ps) cs start last b e a =
    let here : Begins text (a.0 ++ a.1) start = subst (λ x. Begins text x start) a.2 b in
    part_texts text ps a.1 (start + width a.0) last (onward text a.0 a.1 start here) e a.4
part_texts text (Break ∷ ps) cs start last b e a =
    let here : Begins text (a.0 ++ a.1) start = subst (λ x. Begins text x start) a.2 b in
    semicolon_texts text last (close None ps) e (part_texts text ps a.1 (start + width a.0) None (onward text a.0 a.1 start here) tt a.4)
part_texts text (Note c false ∷ ps) cs start last b e a =
    let here : Begins text (a.0 ++ a.1) start = subst (λ x. Begins text x start) a.2 b in
    part_texts text ps a.1 (start + width a.0) last (onward text a.0 a.1 start here) e a.4
part_texts text (Note c true ∷ ps) cs start last b e a =
    let here : Begins text (a.0 ++ a.1) start = subst (λ x. Begins text x start) a.2 b in
    semicolon_texts text last (close None ps) e (part_texts text ps a.1 (start + width a.0) None (onward text a.0 a.1 start here) tt a.4)
part_texts text (Word t ∷ ps) cs start last b e a =
    let here : Begins text (a.0 ++ a.1) start = subst (λ x. Begins text x start) a.2 b in
    let behind : Begins text a.1 (start + width a.0) = onward text a.0 a.1 start here in
    let ends : t.span.end ≡ start + width a.0 = ap (λ s. s.end) a.3.3 in
    (word_text text a.0 a.1 start t here a.3.0 a.3.2 a.3.3, part_texts text ps a.1 (start + width a.0) (Some t) behind (a.1, subst (Begins text a.1) (sym ends) behind) a.4)

answer_texts : (text cs : List ℕ) (start : ℕ) (ts : List Token) → Begins text cs start → IsAnswerFrom tokens_by_line start cs (Ok ts) → HaveTexts text ts
answer_texts text cs start ts b a = subst (HaveTexts text) (sym (a.2 ∙ tokens_by_line-close a.0)) (part_texts text a.0 cs start None b tt a.1)

-- the text's characters begin at its start, and those behind a mark behind three bytes
begins_at_start : (text : List ℕ) → IsUtf8 text → Begins text (chars text) 0
begins_at_start text u = record { front = []; bytes = sym (encodes-chars text u); place = refl; scalar = scalars-chars text u }

behind_mark : (text cs : List ℕ) → first_passes (λ c. c == 65279) cs ≡ true → Begins text cs 0 → Begins text (drop 1 cs) 3
behind_mark text [] h b = cc
behind_mark text (c ∷ cs) h b =
    let mark : c ≡ 65279 = same_number c 65279 h in
    let three : 0 + width (c ∷ []) ≡ 3 = ap (λ d. 0 + width (d ∷ [])) mark in
    subst (Begins text cs) three (onward text (c ∷ []) cs 0 b)
  where
    same_number : (a b : ℕ) → (a == b) ≡ true → a ≡ b
    same_number a b h = grind (arith, nat_tests)

pub text_texts : (text : List ℕ) (ts : List Token) → IsUtf8 text → IsAnswer text (Ok ts) → All (HasItsText text) ts
text_texts text ts u a = All-from_recursion (HasItsText text) ts (elim (true_or_false (first_passes (λ c. c == 65279) (chars text))) [
  | inl mark ↦ answer_texts text (drop 1 (chars text)) 3 ts (behind_mark text (chars text) mark (begins_at_start text u)) (a.0 mark)
  | inr none ↦ answer_texts text (chars text) 0 ts (begins_at_start text u) (a.1 none)
])

-- ---- what follows from a token's text

pub slice_of-token : (text : List ℕ) (t : Token) → HasItsText text t → (bytes : List ℕ) × (slice_of text t.span ≡ Some bytes) × IsSpelled t.kind bytes
slice_of-token text t h = from_match (slice_of text t.span) refl h
  where
    from_match : (o : Option (List ℕ)) → slice_of text t.span ≡ o → MatchOption o ⊥ (IsSpelled t.kind) → (bytes : List ℕ) × (slice_of text t.span ≡ Some bytes) × IsSpelled t.kind bytes
    from_match None e h = absurd h
    from_match (Some bytes) e h = (bytes, e, h)

pub token_has_slice : (text : List ℕ) (t : Token) → HasItsText text t → is_some (slice_of text t.span) ≡ true
token_has_slice text t h = ap is_some (slice_of-token text t h).1

-- a piece of a text is no longer than its span
slice_width : (text bytes : List ℕ) (span : Span) → slice_of text span ≡ Some bytes → (span.start ≤ span.end) × (span.start + length bytes ≤ span.end)
slice_width text bytes span e = elim (chosen (nat_le span.start span.end && is_boundary_of text span.start && is_boundary_of text span.end) (Some (slice_range text span.start span.end)) None (Some bytes) e) [
  | inl h ↦ (
      let order : span.start ≤ span.end = at_most span.start span.end (and_true _ _ (and_true _ _ h.0).0).0 in
      let same : slice_range text span.start span.end ≡ bytes = cc in
      (order, omega (arith, ap length same, short (span.end - span.start) (drop span.start text))))
  | inr h ↦ cc
]
  where
    at_most : (a b : ℕ) → nat_le a b ≡ true → a ≤ b
    at_most a b h = grind (arith, nat_tests)

    short : (n : ℕ) (xs : List ℕ) → length (take n xs) ≤ n
    short n xs = omega (arith, length-take n xs)

enclosed_some : (e : Enclosure) (w : List ℕ) → IsEnclosed e w → 0 < length w
enclosed_some General w h = omega (arith, ap length h.1)
enclosed_some Quoted w h = omega (arith, ap length h.1)
enclosed_some Raw w h = omega (arith, ap length h.1)

first_some : (w : List ℕ) → first_passes letter w ≡ true → 0 < length w
first_some [] h = cc
first_some (c ∷ w) h = omega arith

pub lexeme_some : (kind : TokenKind) (w : List ℕ) → IsLexeme kind w → 0 < length w
lexeme_some kinds.Identifier w h = first_some w h.0.first
lexeme_some (kinds.Keyword k) w h = let word : IsWord w = subst IsWord (sym h) (keyword_word k) in first_some w word.first
lexeme_some kinds.Integer w h = elim h [
  | inl ten ↦ omega (arith, ap length ten.2)
  | inr other ↦ elim other [ inl eight ↦ omega (arith, ap length eight.1) | inr based ↦ omega (arith, ap length based.3) ]
]
lexeme_some kinds.String w h = elim h [ inl quoted ↦ enclosed_some Quoted w quoted | inr raw ↦ enclosed_some Raw w raw ]
lexeme_some (kinds.Operator o) w h = omega (arith, ap length h, operator_some o)

pub filled_by_text : (text : List ℕ) (t : Token) → HasItsText text t → IsFilled t
filled_by_text text t h =
    let piece = slice_of-token text t h in
    let size = slice_width text piece.0 t.span piece.1 in
    elim piece.2 [
      | inl lexeme ↦ inl (omega (arith, size.1, lexeme_some t.kind lexeme.0 lexeme.1, length-le-encodes lexeme.0, ap length lexeme.2))
      | inr mark ↦ inr (mark.0, size.0)
    ]

-- ---- comments

comment_text : (text w rest : List ℕ) (start : ℕ) (c : Comment) → Begins text (w ++ rest) start → IsComment c.kind w → c.span ≡ span_between start (start + width w) → CommentHasItsText text c
comment_text text w rest start c b comment place = subst (λ o. MatchOption o ⊥ (IsEncodedComment c.kind)) (sym (ap (slice_of text) place ∙ slice_here text w rest start b)) (w, comment, refl)

abbrev AllComments : List ℕ → List Comment → Type 0
AllComments text cs = AllByRecursion (CommentHasItsText text) cs

part_comments : (text : List ℕ) (ps : List TextPart) (cs : List ℕ) (start : ℕ) → Begins text cs start → AreTextParts ps cs start None → AllComments text (comments_in ps)
unfolding comments_in
part_comments text [] cs start b a = tt
part_comments text (Gap ∷ ps) cs start b a =
    part_comments text ps a.1 (start + width a.0) (onward text a.0 a.1 start (subst (λ x. Begins text x start) a.2 b)) a.4
part_comments text (Break ∷ ps) cs start b a =
    part_comments text ps a.1 (start + width a.0) (onward text a.0 a.1 start (subst (λ x. Begins text x start) a.2 b)) a.4
part_comments text (Word t ∷ ps) cs start b a =
    part_comments text ps a.1 (start + width a.0) (onward text a.0 a.1 start (subst (λ x. Begins text x start) a.2 b)) a.4
part_comments text (Note c d ∷ ps) cs start b a =
    let here : Begins text (a.0 ++ a.1) start = subst (λ x. Begins text x start) a.2 b in
    (comment_text text a.0 a.1 start c here a.3.0 a.3.2, part_comments text ps a.1 (start + width a.0) (onward text a.0 a.1 start here) a.4)

comments_texts : (text cs : List ℕ) (start : ℕ) (xs : List Comment) → Begins text cs start → IsAnswerFrom comments_in start cs (Ok xs) → AllComments text xs
comments_texts text cs start xs b a = subst (AllComments text) (sym a.2) (part_comments text a.0 cs start b a.1)

pub text_comments : (text : List ℕ) (xs : List Comment) → IsUtf8 text → IsAnswerOf comments_in text (Ok xs) → All (CommentHasItsText text) xs
text_comments text xs u a = All-from_recursion (CommentHasItsText text) xs (elim (true_or_false (first_passes (λ c. c == 65279) (chars text))) [
  | inl mark ↦ comments_texts text (drop 1 (chars text)) 3 xs (behind_mark text (chars text) mark (begins_at_start text u)) (a.0 mark)
  | inr none ↦ comments_texts text (chars text) 0 xs (begins_at_start text u) (a.1 none)
])
