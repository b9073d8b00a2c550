-- What is counted is the place.
use Rattle.std.proofs.Common.{◌≡◌, ◌≢◌, ◌+◌, ◌==◌, ◌≤◌, ◌∙◌, ℕ, false, cond, List, [], ◌∷◌, ◌++◌, length, drop, take, inl, inr, refl, sym, ap, subst, arith}
use Rattle.std.specs.Prelude.{count_by}
use Rattle.std.proofs.lemmas.Bool.Decides.{eqb_tells}
use Rattle.std.proofs.lemmas.List.{append_assoc, append-nil, drop_all, length-append, length-take-le, take-append-drop}
use Rattle.std.proofs.lemmas.List.Elements.{All-append, All-cons, All-nil}
use Rattle.std.proofs.lemmas.List.Sums.{count_by-le-length, sum_by-append}
use Rattle.go_folder_core.specs.Places.{IsPosition}
use Rattle.go_folder_core.specs.declared.places.Position.{Position}
use Rattle.go_folder_core.specs.mirrors.Counting.{at, past, position_from}

-- how many ends of lines there are
abbrev ends_in : List ℕ → ℕ
ends_in = count_by (λ x. x == 10)

-- a byte more among the bytes
counted : (before : List ℕ) (b n : ℕ) → cond (b == 10) 1 0 ≡ n → ends_in (before ++ b ∷ []) ≡ ends_in before + n
counted before b n e =
    let whole : ends_in (before ++ b ∷ []) ≡ ends_in before + ends_in (b ∷ []) = sum_by-append (λ x. cond (x == 10) 1 0) before (b ∷ []) in
    let one : ends_in (b ∷ []) ≡ 0 + n = ap (λ k. 0 + k) e in
    whole ∙ ap (λ k. ends_in before + k) (one ∙ zero)
  where
    zero : 0 + n ≡ n
    zero = omega arith

-- an end of a line more
past_line : (before : List ℕ) (p : Position) → IsPosition before p → IsPosition (before ++ 10 ∷ []) (at (p.line + 1) 1)
past_line before p h = record {
  lines = before ++ 10 ∷ [];
  rest = [];
  parts = sym (append-nil (before ++ 10 ∷ []));
  whole = inr (before, refl);
  one_line = All-nil (λ b. b ≢ 10);
  line = next (ends_in (before ++ 10 ∷ [])) (ends_in before) p.line (counted before 10 1 refl) h.line;
  column = refl;
}
  where
    next : (more k line : ℕ) → more ≡ k + 1 → line ≡ 1 + k → line + 1 ≡ 1 + more
    next more k line e h = omega arith

-- another byte more
past_other : (before : List ℕ) (p : Position) (b : ℕ) → (b == 10) ≡ false → b ≢ 10 → IsPosition before p → IsPosition (before ++ b ∷ []) (at p.line (p.column + 1))
past_other before p b e other h = record {
  lines = h.lines;
  rest = h.rest ++ b ∷ [];
  parts = ap (λ xs. xs ++ b ∷ []) h.parts ∙ append_assoc h.lines h.rest (b ∷ []);
  whole = h.whole;
  one_line = All-append (λ x. x ≢ 10) h.rest (b ∷ []) h.one_line (All-cons (λ x. x ≢ 10) b [] other (All-nil (λ x. x ≢ 10)));
  line = same (ends_in (before ++ b ∷ [])) (ends_in before) p.line (counted before b 0 (ap (λ t. cond t 1 0) e)) h.line;
  column = next (length (h.rest ++ b ∷ [])) (length h.rest) p.column (length-append h.rest (b ∷ [])) h.column;
}
  where
    same : (more k line : ℕ) → more ≡ k + 0 → line ≡ 1 + k → line ≡ 1 + more
    same more k line e h = omega arith

    next : (more k column : ℕ) → more ≡ k + 1 → column ≡ 1 + k → column + 1 ≡ 1 + more
    next more k column e h = omega arith

past_byte : (before : List ℕ) (p : Position) (b : ℕ) → IsPosition before p → IsPosition (before ++ b ∷ []) (past b p)
past_byte before p b h = elim (eqb_tells b 10) [
  | inl ends ↦ subst (λ t. IsPosition (before ++ b ∷ []) (cond t (at (p.line + 1) 1) (at p.line (p.column + 1)))) (sym ends.0) (subst (λ x. IsPosition (before ++ x ∷ []) (at (p.line + 1) 1)) (sym ends.1) (past_line before p h))
  | inr other ↦ subst (λ t. IsPosition (before ++ b ∷ []) (cond t (at (p.line + 1) 1) (at p.line (p.column + 1)))) (sym other.0) (past_other before p b other.0 other.1 h)
]

-- the place after more bytes
after : (before bytes : List ℕ) (p : Position) → IsPosition before p → IsPosition (before ++ bytes) (position_from p bytes)
after before [] p h = subst (λ xs. IsPosition xs p) (sym (append-nil before)) h
after before (b ∷ bs) p h = subst (λ xs. IsPosition xs (position_from (past b p) bs)) (append_assoc before (b ∷ []) bs) (after (before ++ b ∷ []) bs (past b p) (past_byte before p b h))

pub at_start : IsPosition [] (at 1 1)
at_start = record {
  lines = [];
  rest = [];
  parts = refl;
  whole = inl refl;
  one_line = All-nil (λ b. b ≢ 10);
  line = refl;
  column = refl;
}

-- a place is no farther than there are bytes before it
bounded : (before : List ℕ) (p : Position) → IsPosition before p → (p.line ≤ 1 + length before) × (p.column ≤ 1 + length before)
bounded before p h = (
  down p.line (ends_in before) (length before) h.line (count_by-le-length (λ b. b == 10) before),
  within p.column (length before) (length h.lines) (length h.rest) h.column (ap length h.parts ∙ length-append h.lines h.rest),
)
  where
    down : (line k n : ℕ) → line ≡ 1 + k → k ≤ n → line ≤ 1 + n
    down line k n e h = omega arith

    within : (column n k m : ℕ) → column ≡ 1 + m → n ≡ k + m → column ≤ 1 + n
    within column n k m e h = omega arith

-- nor is the place behind the first bytes of a text
pub bounded_front : (bytes : List ℕ) (n : ℕ) (p : Position) → n ≤ length bytes → IsPosition (take n bytes) p → (p.line ≤ 1 + (n + 0)) × (p.column ≤ 1 + (n + 0))
bounded_front bytes n p within h =
    let far = bounded (take n bytes) p h in
    let long : length (take n bytes) ≡ n = length-take-le n bytes within in
    (short p.line (length (take n bytes)) n far.0 long, short p.column (length (take n bytes)) n far.1 long)
  where
    short : (x k m : ℕ) → x ≤ 1 + k → k ≡ m → x ≤ 1 + (m + 0)
    short x k m h e = omega arith

-- where the count has come to the end of what stands behind the first bytes, it is the place of all
pub counted_position : (bytes : List ℕ) (n i : ℕ) (p q : Position) → IsPosition (take n bytes) p → length (drop n bytes) ≤ i → position_from q (drop i (drop n bytes)) ≡ position_from p (drop n bytes) → IsPosition bytes q
counted_position bytes n i p q h past same =
    let here : q ≡ position_from p (drop n bytes) = sym (ap (position_from q) (drop_all i (drop n bytes) past)) ∙ same in
    let whole : IsPosition bytes (position_from p (drop n bytes)) = subst (λ xs. IsPosition xs (position_from p (drop n bytes))) (take-append-drop n bytes) (after (take n bytes) (drop n bytes) p h) in
    subst (IsPosition bytes) (sym here) whole
