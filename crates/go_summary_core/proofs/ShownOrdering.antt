-- Texts in byte order, each once.
use Rattle.std.proofs.Common.{◌≡◌, ℕ, zero, suc, ◌<◌, Bool, true, false, List, [], ◌∷◌, length, get_or, Bor, refl, sym, ap, ◌∙◌, subst, arith}
use Rattle.std.specs.Prelude.{◌↔◌, Contains}
use Rattle.std.specs.Cmp.{IsEquivalence}
use Rattle.std.specs.List.{AllByRecursion, dedup}
use Rattle.std.specs.List.Sorted.{IsPermutation, IsStrictlySortedBy}
use Rattle.std.specs.Str.{bytes_eq}
use Rattle.std.specs.declared.cmp.Ordering.TheVariants.{Less}
use Rattle.std.proofs.lemmas.List.Kept.{Any-dedup, Contains-from_dedup}
use Rattle.std.proofs.lemmas.List.Sorted.{Contains-permutation, IsPermutation-sym}
use Rattle.std.proofs.lemmas.Slice.Eq.{bytes_eq-Decides}
use Rattle.go_declared_core.specs.graph_core.Workspaces.{by_bytes}
use Rattle.go_summary_core.specs.shown.Shown.{texts}

abbrev pub Lent : Type 0
Lent = Bor (List ℕ)

abbrev alike : Lent → Lent → Bool
alike x y = bytes_eq x.now y.now

same_bools : (a b : Bool) → (a ≡ true → b ≡ true) → (b ≡ true → a ≡ true) → a ≡ b
same_bools true b f g = sym (f refl)
same_bools false true f g = g refl
same_bools false false f g = refl

alike_is : IsEquivalence alike
alike_is = record {
  refl = λ x. (bytes_eq-Decides x.now x.now).1 refl;
  symm = λ x y. same_bools (alike x y) (alike y x) (λ h. (bytes_eq-Decides y.now x.now).1 (sym ((bytes_eq-Decides x.now y.now).0 h))) (λ h. (bytes_eq-Decides x.now y.now).1 (sym ((bytes_eq-Decides y.now x.now).0 h)));
  congr = λ x y z h. ap (λ (t : List ℕ). bytes_eq t z.now) ((bytes_eq-Decides x.now y.now).0 h);
}

-- what is lent, and the texts

text_at : (xs : List Lent) (k : ℕ) (d : Lent) → get_or (texts xs) k d.now ≡ (get_or xs k d).now
text_at [] k d = refl
text_at (x ∷ xs) zero d = refl
text_at (x ∷ xs) (suc k) d = text_at xs k d

texts_length : (xs : List Lent) → length (texts xs) ≡ length xs
texts_length [] = refl
texts_length (x ∷ xs) = ap suc (texts_length xs)

there : (xs : List Lent) (x : Lent) → Contains xs x → Contains (texts xs) x.now
there xs x h = (h.0, (let lt = h.1 in let n = texts_length xs in omega (arith, lt, n)), text_at xs h.0 x ∙ ap (λ (y : Lent). y.now) h.2)

lent : (xs : List Lent) (t : List ℕ) (k : ℕ) → k < length (texts xs) → get_or (texts xs) k t ≡ t → (x : Lent) × Contains xs x × (x.now ≡ t)
lent [] t k lt e = absurd (omega (arith, lt))
lent (x ∷ xs) t zero lt e = (x, (0, omega arith, refl), e)
lent (x ∷ xs) t (suc k) lt e = (let r = lent xs t k (omega (arith, lt)) e in (r.0, (suc r.1.0, (let low = r.1.1 in omega (arith, low)), r.1.2), r.2))

-- the order

texts_all : (t : List ℕ) (xs : List Lent) → AllByRecursion (λ (y : Lent). by_bytes t y.now ≡ Less) xs → AllByRecursion (λ y. by_bytes t y ≡ Less) (texts xs)
texts_all t [] h = h
texts_all t (x ∷ xs) h = (h.0, texts_all t xs h.1)

pub texts_sorted : (xs : List Lent) → IsStrictlySortedBy (λ (x y : Lent). by_bytes x.now y.now) xs → IsStrictlySortedBy by_bytes (texts xs)
unfolding IsStrictlySortedBy
texts_sorted [] h = h
texts_sorted (x ∷ xs) h = (texts_all x.now xs h.0, texts_sorted xs h.1)

-- the same texts

pub same_texts : (old sorted new : List Lent) → IsPermutation old sorted → new ≡ dedup alike sorted → (t : List ℕ) → Contains (texts new) t ↔ Contains (texts old) t
same_texts old sorted new moved is t = (back, forth)
  where
    back : Contains (texts new) t → Contains (texts old) t
    back h =
        let found = lent new t h.0 h.1 h.2 in
        let kept : Contains sorted found.0 = Contains-from_dedup alike sorted found.0 (subst (λ (l : List Lent). Contains l found.0) is found.1) in
        subst (λ (x : List ℕ). Contains (texts old) x) found.2 (there old found.0 (Contains-permutation sorted old found.0 (IsPermutation-sym old sorted moved) kept))

    forth : Contains (texts old) t → Contains (texts new) t
    forth h =
        let found = lent old t h.0 h.1 h.2 in
        let any = Any-dedup alike_is sorted found.0 (Contains-permutation old sorted found.0 moved found.1) in
        let same : any.1.now ≡ t = sym ((bytes_eq-Decides found.0.now any.1.now).0 any.4) ∙ found.2 in
        let in_new : Contains new any.1 = subst (λ (l : List Lent). Contains l any.1) (sym is) (any.0, any.2, any.3) in
        subst (λ (x : List ℕ). Contains (texts new) x) same (there new any.1 in_new)
