-- Where lines start and end.
use Rattle.std.proofs.Common.{◌≡◌, ◌==◌, ◌+◌, ◌-◌, ◌<◌, ◌≤◌, ◌∙◌, ℕ, zero, suc, true, false, cond, List, [], ◌∷◌, length, get_or, drop, drop-cons, add-one, length-drop, min, refl, sym, ap, arith, inl, inr}
use Rattle.std.proofs.lemmas.Bool.{cases_lt}
use Rattle.std.proofs.lemmas.List.{drop_all}
use Rattle.go_recovery_core.specs.standin.Lines.{before_newline, start_from}

cut : (xs : List ℕ) (i : ℕ) → i < length xs → drop i xs ≡ get_or xs i 0 ∷ drop (i + 1) xs
cut xs i lt = drop-cons xs i 0 lt ∙ ap (λ m. get_or xs i 0 ∷ drop m xs) (sym (add-one i))

pub start_step : (xs : List ℕ) (i n start new : ℕ) → i < length xs → i < n → new ≡ cond (get_or xs i 0 == 10) (i + 1) start
    → start_from new (i + 1) (drop (i + 1) xs) (n - (i + 1)) ≡ start_from start i (drop i xs) (n - i)
start_step xs i n start new lt less is =
    let left : n - i ≡ suc (n - (i + 1)) = omega (arith, less) in
    let whole : start_from start i (drop i xs) (n - i) ≡ start_from (cond (get_or xs i 0 == 10) (suc i) start) (suc i) (drop (i + 1) xs) (n - (i + 1)) =
    ap (λ ys. start_from start i ys (n - i)) (cut xs i lt) ∙ ap (start_from start i (get_or xs i 0 ∷ drop (i + 1) xs)) left in
    ap (λ s. start_from s (i + 1) (drop (i + 1) xs) (n - (i + 1))) is
    ∙ (ap (λ j. start_from (cond (get_or xs i 0 == 10) j start) j (drop (i + 1) xs) (n - (i + 1))) (add-one i) ∙ sym whole)

-- after so many bytes, or all of them, the line is found
pub start_end : (xs : List ℕ) (i n start : ℕ) → min n (length xs) ≤ i → start_from start i (drop i xs) (n - i) ≡ start
start_end xs i n start le = by (drop i xs) (n - i) (omega (arith, le, length-drop i xs))
  where
    by : (ys : List ℕ) (m : ℕ) → min m (length ys) ≡ 0 → start_from start i ys m ≡ start
    by [] m h = refl
    by (y ∷ ys) zero h = refl
    by (y ∷ ys) (suc m) h = absurd (omega (arith, h))

pub newline_here : (xs : List ℕ) (i : ℕ) → i < length xs → (get_or xs i 0 == 10) ≡ true → before_newline (drop i xs) ≡ 0
newline_here xs i lt e = ap before_newline (cut xs i lt) ∙ ap (λ t. cond t 0 (suc (before_newline (drop (i + 1) xs)))) e

pub newline_later : (xs : List ℕ) (i : ℕ) → i < length xs → (get_or xs i 0 == 10) ≡ false → before_newline (drop i xs) ≡ suc (before_newline (drop (i + 1) xs))
newline_later xs i lt e = ap before_newline (cut xs i lt) ∙ ap (λ t. cond t 0 (suc (before_newline (drop (i + 1) xs)))) e

pub from_min : (xs : List ℕ) (n : ℕ) → before_newline (drop (min n (length xs)) xs) ≡ before_newline (drop n xs)
from_min xs n = elim (cases_lt n (length xs)) [
  | inl lt ↦ (let same : min n (length xs) ≡ n = omega (arith, lt) in ap (λ m. before_newline (drop m xs)) same)
  | inr le ↦ (let same : min n (length xs) ≡ length xs = omega (arith, le) in ap before_newline (ap (λ m. drop m xs) same ∙ (drop_all (length xs) xs (omega arith) ∙ sym (drop_all n xs le))))
]
