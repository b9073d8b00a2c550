-- Tokens follow one another.
use Rattle.std.proofs.Common.{◌≡◌, ℕ, ◌+◌, ◌≤◌, Bool, true, false, cond, ◌==◌, inl, inr, List, [], ◌∷◌, ◌++◌, length, drop, Option, Some, None, Ok, refl, sym, ap, ◌∙◌, subst, arith}
use Rattle.std.specs.Str.{chars, IsUtf8}
use Rattle.std.proofs.lemmas.List.Sums.{sum_by-append}
use Rattle.std.specs.Char.{len_utf8}
use Rattle.go_token_core.specs.text_core.Each.{true_or_false}
use Rattle.go_token_core.specs.declared.token.Comment.{Comment}
use Rattle.go_token_core.specs.declared.token.Token.{Token}
use Rattle.go_token_core.specs.Characters.{first_passes}
use Rattle.go_scan_core.specs.Parts.{Break, Gap, Note, TextPart, Word, comments_in, ends_statement, semicolon_after, semicolon_behind, width}
use Rattle.go_scan_core.specs.mirrors.Cutting.{close}
use Rattle.go_scan_core.specs.Tokens.{AreTextParts, CommentsInOrder, TokensInOrder, IsAnswer, IsAnswerFrom, IsAnswerOf, tokens_by_line}
use Rattle.go_scan_core.proofs.AnswerLemmas.{tokens_by_line-close}
use Rattle.go_token_core.proofs.CharacterLemmas.{width-chars}
use Rattle.go_scan_core.proofs.CutLemmas.{width_behind_mark}

-- the last token of the line ends here
abbrev EndsAt : Option Token → ℕ → Type 0
EndsAt None place = Unit {0}
EndsAt (Some t) place = t.span.end ≡ place

with_semicolon_order : (b : Bool) (t : Token) (low high : ℕ) (ts : List Token) → t.span.end ≡ low → TokensInOrder low ts high → TokensInOrder low (cond b (semicolon_behind t ∷ []) [] ++ ts) high
with_semicolon_order true t low high ts e h = (omega arith, omega arith, subst (λ n. TokensInOrder n ts high) (sym e) h)
with_semicolon_order false t low high ts e h = h

semicolon_order : (last : Option Token) (low high : ℕ) (ts : List Token) → EndsAt last low → TokensInOrder low ts high → TokensInOrder low (semicolon_after last ++ ts) high
semicolon_order None low high ts e h = h
semicolon_order (Some t) low high ts e h = with_semicolon_order (ends_statement t.kind) t low high ts e h

wider : (w rest cs : List ℕ) → cs ≡ w ++ rest → width cs ≡ width w + width rest
wider w rest cs e = ap width e ∙ sum_by-append len_utf8 w rest

in_order : (ps : List TextPart) (cs : List ℕ) (start low : ℕ) (last : Option Token) → AreTextParts ps cs start None → low ≤ start → EndsAt last low → TokensInOrder low (close last ps) (start + width cs)
unfolding close
in_order [] cs start low last a h e = subst (λ x. TokensInOrder low x (start + width cs)) (unused last) (semicolon_order last low (start + width cs) [] e (omega arith))
  where
    unused : (last : Option Token) → semicolon_after last ++ [] ≡ semicolon_after last
    unused None = refl
    unused (Some t) = elim (ends_statement t.kind) as (λ b. cond b (semicolon_behind t ∷ []) [] ++ [] ≡ cond b (semicolon_behind t ∷ []) []) [ true ↦ refl | false ↦ refl ]
in_order (Gap ∷ ps) cs start low last a h e =
    let far : start + width a.0 + width a.1 ≡ start + width cs = omega (arith, wider a.0 a.1 cs a.2) in
    subst (λ n. TokensInOrder low (close last ps) n) far (in_order ps a.1 (start + width a.0) low last a.4 (omega arith) e)
in_order (Break ∷ ps) cs start low last a h e =
    let far : start + width a.0 + width a.1 ≡ start + width cs = omega (arith, wider a.0 a.1 cs a.2) in
    semicolon_order last low (start + width cs) (close None ps) e (subst (λ n. TokensInOrder low (close None ps) n) far (in_order ps a.1 (start + width a.0) low None a.4 (omega arith) tt))
in_order (Note c false ∷ ps) cs start low last a h e =
    let far : start + width a.0 + width a.1 ≡ start + width cs = omega (arith, wider a.0 a.1 cs a.2) in
    subst (λ n. TokensInOrder low (close last ps) n) far (in_order ps a.1 (start + width a.0) low last a.4 (omega arith) e)
in_order (Note c true ∷ ps) cs start low last a h e =
    let far : start + width a.0 + width a.1 ≡ start + width cs = omega (arith, wider a.0 a.1 cs a.2) in
    semicolon_order last low (start + width cs) (close None ps) e (subst (λ n. TokensInOrder low (close None ps) n) far (in_order ps a.1 (start + width a.0) low None a.4 (omega arith) tt))
in_order (Word t ∷ ps) cs start low last a h e =
    let far : start + width a.0 + width a.1 ≡ start + width cs = omega (arith, wider a.0 a.1 cs a.2) in
    let place = a.3.3 in
    let begins : t.span.start ≡ start = ap (λ s. s.start) place in
    let ends : t.span.end ≡ start + width a.0 = ap (λ s. s.end) place in
    (omega arith, omega arith, subst (λ n. TokensInOrder t.span.end (close (Some t) ps) n) far (in_order ps a.1 (start + width a.0) t.span.end (Some t) a.4 (omega arith) refl))

answer_order : (start : ℕ) (cs : List ℕ) (ts : List Token) → IsAnswerFrom tokens_by_line start cs (Ok ts) → TokensInOrder 0 ts (start + width cs)
answer_order start cs ts a = subst (λ x. TokensInOrder 0 x (start + width cs)) (sym (a.2 ∙ tokens_by_line-close a.0)) (in_order a.0 cs start 0 None a.1 (omega arith) tt)

pub text_order : (text : List ℕ) (ts : List Token) → IsUtf8 text → IsAnswer text (Ok ts) → TokensInOrder 0 ts (length text)
text_order text ts u a = elim (true_or_false (first_passes (λ c. c == 65279) (chars text))) [
  | inl mark ↦ (let far : 3 + width (drop 1 (chars text)) ≡ length text = width_behind_mark (chars text) mark ∙ width-chars text u in
      subst (λ n. TokensInOrder 0 ts n) far (answer_order 3 (drop 1 (chars text)) ts (a.0 mark)))
  | inr none ↦ (let far : 0 + width (chars text) ≡ length text = omega (arith, width-chars text u) in
      subst (λ n. TokensInOrder 0 ts n) far (answer_order 0 (chars text) ts (a.1 none)))
]

-- comments follow one another
comments_order : (ps : List TextPart) (cs : List ℕ) (start low : ℕ) → AreTextParts ps cs start None → low ≤ start → CommentsInOrder low (comments_in ps) (start + width cs)
unfolding comments_in
comments_order [] cs start low a h = omega arith
comments_order (Gap ∷ ps) cs start low a h =
    let far : start + width a.0 + width a.1 ≡ start + width cs = omega (arith, wider a.0 a.1 cs a.2) in
    subst (λ n. CommentsInOrder low (comments_in ps) n) far (comments_order ps a.1 (start + width a.0) low a.4 (omega arith))
comments_order (Break ∷ ps) cs start low a h =
    let far : start + width a.0 + width a.1 ≡ start + width cs = omega (arith, wider a.0 a.1 cs a.2) in
    subst (λ n. CommentsInOrder low (comments_in ps) n) far (comments_order ps a.1 (start + width a.0) low a.4 (omega arith))
comments_order (Word t ∷ ps) cs start low a h =
    let far : start + width a.0 + width a.1 ≡ start + width cs = omega (arith, wider a.0 a.1 cs a.2) in
    subst (λ n. CommentsInOrder low (comments_in ps) n) far (comments_order ps a.1 (start + width a.0) low a.4 (omega arith))
comments_order (Note c b ∷ ps) cs start low a h =
    let far : start + width a.0 + width a.1 ≡ start + width cs = omega (arith, wider a.0 a.1 cs a.2) in
    let begins : c.span.start ≡ start = ap (λ s. s.start) a.3.2 in
    let ends : c.span.end ≡ start + width a.0 = ap (λ s. s.end) a.3.2 in
    (omega arith, omega arith, subst (λ n. CommentsInOrder c.span.end (comments_in ps) n) far (comments_order ps a.1 (start + width a.0) c.span.end a.4 (omega arith)))

comments_answer : (start : ℕ) (cs : List ℕ) (xs : List Comment) → IsAnswerFrom comments_in start cs (Ok xs) → CommentsInOrder 0 xs (start + width cs)
comments_answer start cs xs a = subst (λ x. CommentsInOrder 0 x (start + width cs)) (sym a.2) (comments_order a.0 cs start 0 a.1 (omega arith))

pub text_comments_order : (text : List ℕ) (xs : List Comment) → IsUtf8 text → IsAnswerOf comments_in text (Ok xs) → CommentsInOrder 0 xs (length text)
text_comments_order text xs u a = elim (true_or_false (first_passes (λ c. c == 65279) (chars text))) [
  | inl mark ↦ (let far : 3 + width (drop 1 (chars text)) ≡ length text = width_behind_mark (chars text) mark ∙ width-chars text u in
      subst (λ n. CommentsInOrder 0 xs n) far (comments_answer 3 (drop 1 (chars text)) xs (a.0 mark)))
  | inr none ↦ (let far : 0 + width (chars text) ≡ length text = omega (arith, width-chars text u) in
      subst (λ n. CommentsInOrder 0 xs n) far (comments_answer 0 (chars text) xs (a.1 none)))
]
