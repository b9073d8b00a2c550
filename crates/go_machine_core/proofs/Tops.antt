-- The last of the words, which is the uppermost operand.
use Rattle.std.proofs.Common.{◌≡◌, ℕ, ◌+◌, ◌-◌, ◌<◌, ◌≤◌, List, [], ◌∷◌, reverse, take, drop, set, get_or, length, length-set, ℤ, Option, Some, None, refl, sym, ap, ◌∙◌, arith}
use Rattle.std.specs.Prelude.{slice_get, MatchOption}
use Rattle.std.proofs.lemmas.List.{reverse-append, take_all, take_more, take_more_set}
use Rattle.std.proofs.lemmas.Option.{get_or_from_slice_get, slice_get-get_or}

last_first : (items : List ℤ) (at : ℕ) (v : ℤ) → at + 1 ≡ length items → reverse items ≡ get_or items at v ∷ reverse (take at items)
last_first items at v e =
    let within : at < length items = omega (arith, e) in
    ap reverse (sym (take_all (at + 1) items (omega (arith, e))) ∙ take_more items at v within) ∙ reverse-append (take at items) (get_or items at v ∷ [])

some_first : (items : List ℤ) (at : ℕ) (v : ℤ) → at + 1 ≡ length items → v ≡ get_or items at v → reverse items ≡ v ∷ drop 1 (reverse items)
some_first items at v e is =
    let first : reverse items ≡ v ∷ reverse (take at items) = last_first items at v e ∙ ap (λ w. w ∷ reverse (take at items)) (sym is) in
    first ∙ ap (λ l. v ∷ l) (sym (ap (drop 1) first))

-- the last of the words, where there is one
pub top_of : (items : List ℤ) (o : Option ℤ) → o ≡ slice_get items (length items - 1) → MatchOption o (reverse items ≡ []) (λ v. reverse items ≡ v ∷ drop 1 (reverse items))
top_of [] None e = refl
top_of [] (Some v) e = absurd (cc)
top_of (x ∷ items) None e = absurd (let some : slice_get (x ∷ items) (length (x ∷ items) - 1) ≡ Some (get_or (x ∷ items) (length (x ∷ items) - 1) x) = slice_get-get_or (x ∷ items) (length (x ∷ items) - 1) x (omega arith) in (cc))
top_of (x ∷ items) (Some v) e =
    let at = length (x ∷ items) - 1 in
    some_first (x ∷ items) at v (omega arith) (sym (get_or_from_slice_get (x ∷ items) at v v (sym e)))

-- a word in the place of the last
pub top_replaced : (items : List ℤ) (at : ℕ) (v : ℤ) → at + 1 ≡ length items → reverse (set items at v) ≡ v ∷ drop 1 (reverse items)
top_replaced items at v e =
    let within : at < length items = omega (arith, e) in
    let many : length (set items at v) ≤ at + 1 = omega (arith, e, length-set items at v) in
    ap reverse (sym (take_all (at + 1) (set items at v) many) ∙ take_more_set items at v within)
    ∙ reverse-append (take at items) (v ∷ [])
    ∙ ap (λ l. v ∷ l) (sym (ap (drop 1) (last_first items at v e)))
