-- What the tests of the definitions tell.
use Rattle.std.proofs.Common.{◌≡◌, Ordering, ℕ, ◌<◌, ◌^◌, ◌⊎◌, Bool, true, false, List, [], ◌∷◌, ℤ, pos, negsuc, ◌<ℤ◌, ◌≤ℤ◌, neg_ℤ, refl, sym, ap, subst, inl, inr, arith}
use Rattle.std.specs.Bool.{Decides}
use Rattle.std.specs.Ordering.{nat_cmp, is_lt, ordering_then}
use Rattle.std.specs.Cmp.Lexicographic.{slice_cmp, bytes_decides}
use Rattle.std.proofs.lemmas.Bool.{ltb-true, lt-ltb}
use Rattle.std.proofs.lemmas.Bool.Decides.{Decides-eqb, Decides-ltb, Decides-like}
use Rattle.std.proofs.lemmas.Cmp.{ranked, by_ranked}
use Rattle.std.proofs.lemmas.Int.{ints}
use Rattle.go_constant_core.specs.Values.{fits_64_bits, int_same, int_less, text_same, text_less, bool_same}
use Rattle.go_constant_core.specs.Laws.{IsInRange, IsTextBefore}

pub fits_tells : (z : ℤ) → Decides (fits_64_bits z) (IsInRange z)
fits_tells (pos n) = (
  (λ h. let below : n < 2 ^ 63 = ltb-true n (2 ^ 63) h in (omega (arith, ints), omega (arith, ints))),
  (λ p. let above : pos n <ℤ pos (2 ^ 63) = p.1 in lt-ltb n (2 ^ 63) (omega (arith, ints))),
)
fits_tells (negsuc n) = (
  (λ h. let below : n < 2 ^ 63 = ltb-true n (2 ^ 63) h in (omega (arith, ints), omega (arith, ints))),
  (λ p. let above : neg_ℤ (pos (2 ^ 63)) ≤ℤ negsuc n = p.0 in lt-ltb n (2 ^ 63) (omega (arith, ints))),
)

pub same_tells : (a b : ℤ) → Decides (int_same a b) (a ≡ b)
same_tells (pos m) (pos n) = Decides-like _ (λ (e : m ≡ n). ap pos e) (λ (e : pos m ≡ pos n). cc) (Decides-eqb m n)
same_tells (pos m) (negsuc n) = ((λ h. cc), (λ e. cc))
same_tells (negsuc m) (pos n) = ((λ h. cc), (λ e. cc))
same_tells (negsuc m) (negsuc n) = Decides-like _ (λ (e : m ≡ n). ap negsuc e) (λ (e : negsuc m ≡ negsuc n). cc) (Decides-eqb m n)

pub less_tells : (a b : ℤ) → Decides (int_less a b) (a <ℤ b)
less_tells (pos m) (pos n) =
    Decides-like _ (λ (h : m < n). omega (arith, ints)) (λ (h : pos m <ℤ pos n). omega (arith, ints)) (Decides-ltb m n)
less_tells (pos m) (negsuc n) = ((λ h. cc), (λ h. absurd (omega (arith, ints))))
less_tells (negsuc m) (pos n) = ((λ h. omega (arith, ints)), (λ h. refl))
less_tells (negsuc m) (negsuc n) =
    Decides-like _ (λ (h : n < m). omega (arith, ints)) (λ (h : negsuc m <ℤ negsuc n). omega (arith, ints)) (Decides-ltb n m)

pub text_same_tells : (a b : List ℕ) → Decides (text_same a b) (a ≡ b)
text_same_tells a b = bytes_decides a b

pub before_tells : (a b : List ℕ) → Decides (text_less a b) (IsTextBefore a b)
before_tells [] [] = ((λ h. absurd cc), (λ h. absurd h))
before_tells [] (y ∷ ys) = ((λ h. tt), (λ h. refl))
before_tells (x ∷ xs) [] = ((λ h. absurd cc), (λ h. absurd h))
before_tells (x ∷ xs) (y ∷ ys) =
    let P : Ordering → Type 0 = λ o. Decides (is_lt (ordering_then o (slice_cmp nat_cmp xs ys))) ((x < y) ⊎ ((x ≡ y) × IsTextBefore xs ys)) in
    by_ranked (x < y) (x ≡ y) (y < x) {G = P (nat_cmp x y)} (nat_cmp x y) (ranked x y (nat_cmp x y) refl)
    (λ e lt. subst P (sym e) ((λ h. inl lt), (λ s. refl)))
    (λ e same. subst P (sym e) (Decides-like _ (λ h. inr (same, h)) (later same) (before_tells xs ys)))
    (λ e gt. subst P (sym e) ((λ h. absurd cc), (λ s. absurd (never gt s))))
  where
    later : x ≡ y → ((x < y) ⊎ ((x ≡ y) × IsTextBefore xs ys)) → IsTextBefore xs ys
    later same (inl lt) = absurd (omega arith)
    later same (inr p) = p.1

    never : y < x → ((x < y) ⊎ ((x ≡ y) × IsTextBefore xs ys)) → ⊥
    never gt (inl lt) = omega arith
    never gt (inr p) = let e : x ≡ y = p.0 in omega arith

pub bool_same_tells : (a b : Bool) → Decides (bool_same a b) (a ≡ b)
bool_same_tells true true = ((λ h. refl), (λ h. refl))
bool_same_tells true false = ((λ h. cc), (λ h. cc))
bool_same_tells false true = ((λ h. cc), (λ h. cc))
bool_same_tells false false = ((λ h. refl), (λ h. refl))
