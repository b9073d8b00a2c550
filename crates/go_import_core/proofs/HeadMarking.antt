-- Marks of packages, number by number.
use Rattle.std.proofs.Common.{◌≡◌, ◌≢◌, ◌⊎◌, ⊎_elim, inl, inr, ℕ, zero, suc, ◌+◌, ◌<◌, ◌≤◌, Bool, true, false, List, [], ◌∷◌, ◌++◌, length, get_or, map, replicate, set, length-set, refl, sym, ap, ◌∙◌, subst, arith, Some}
use Rattle.std.specs.Prelude.{slice_get, IsTrue, ◌↔◌}
use Rattle.std.specs.Option.{option_map}
use Rattle.std.proofs.lemmas.Bool.{cases_Bool, cases_eq, cases_lt, eqb-false}
use Rattle.std.proofs.lemmas.List.{length-replicate}
use Rattle.std.proofs.lemmas.Option.{slice_get-get_or, slice_get-map, slice_get_within}
use lib.Dec.{eqb}
use Rattle.go_graph_core.specs.Workspaces.{PackageModel}
use Rattle.go_import_core.specs.head.Heads.{AreSameMarks, AreSpelledAlike, spelled_head_of}
use Rattle.go_import_core.specs.head.mirrors.Marking.{AreSameBut, IsHeadOf, IsMarkOf}
use Rattle.go_import_core.proofs.HeadAlike.{same_length}

-- lists at a number

pub at_end : {X : Type 0} (xs : List X) (y : X) (k : ℕ) (x : X) → slice_get (xs ++ y ∷ []) k ≡ Some x → (slice_get xs k ≡ Some x) ⊎ ((k ≡ length xs) × (y ≡ x))
at_end [] y zero x e = inr (refl, (let both : Some y ≡ Some x = e in cc))
at_end [] y (suc k) x e = absurd cc
at_end (z ∷ xs) y zero x e = inl e
at_end (z ∷ xs) y (suc k) x e = ⊎_elim (λ (l : slice_get xs k ≡ Some x). inl l) (λ (r : (k ≡ length xs) × (y ≡ x)). inr (ap suc r.0, r.1)) (at_end xs y k x e)

at_set : {X : Type 0} (xs : List X) (k : ℕ) (x y : X) → slice_get (set xs k y) k ≡ Some x → y ≡ x
at_set [] k x y e = absurd cc
at_set (z ∷ xs) zero x y e = (let both : Some y ≡ Some x = e in cc)
at_set (z ∷ xs) (suc k) x y e = at_set xs k x y e

at_other : {X : Type 0} (xs : List X) (k n : ℕ) (y : X) → n ≢ k → slice_get (set xs k y) n ≡ slice_get xs n
at_other [] k n y apart = refl
at_other (x ∷ xs) zero zero y apart = absurd (apart refl)
at_other (x ∷ xs) zero (suc n) y apart = refl
at_other (x ∷ xs) (suc k) zero y apart = refl
at_other (x ∷ xs) (suc k) (suc n) y apart = at_other xs k n y (λ e. apart (ap suc e))

at_replicate : {X : Type 0} (many n : ℕ) (x y : X) → slice_get (replicate many x) n ≡ Some y → x ≡ y
at_replicate zero n x y e = absurd cc
at_replicate (suc many) zero x y e = (let both : Some x ≡ Some y = e in cc)
at_replicate (suc many) (suc n) x y e = at_replicate many n x y e

pub eqb_itself : (n : ℕ) → eqb n n ≡ true
eqb_itself n = ⊎_elim (λ (same : eqb n n ≡ true). same) (λ (other : eqb n n ≡ false). absurd (eqb-false n n other refl)) (cases_Bool (eqb n n))

-- the heads of the packages of a number are spelled alike, or there is none both
abbrev AreAlikeAt : List PackageModel → List PackageModel → ℕ → Type 0
AreAlikeAt ps qs n = option_map spelled_head_of (slice_get ps n) ≡ option_map spelled_head_of (slice_get qs n)

-- there are as many packages, and the heads below a number are spelled alike
abbrev AreAlikeTo : List PackageModel → List PackageModel → ℕ → Type 0
AreAlikeTo ps qs number = (length ps ≡ length qs) × ((n : ℕ) → n < number → AreAlikeAt ps qs n)

-- outside a span of numbers packages are the same; there is a mark for each package, and those below a number, and behind the span, are right; and the flag
-- says whether there are as many packages, and the heads below the number are spelled alike
pub record AreMarkedTo (ps qs : List PackageModel) (high number : ℕ) (marks : List Bool) (heads : Bool) : Type 0 where
  pub low : ℕ
  pub but : AreSameBut ps qs low high
  pub within : high ≤ length qs
  pub many : length marks ≡ length qs
  pub each : (n : ℕ) (is : Bool) → slice_get marks n ≡ Some is → (n < number) ⊎ (high ≤ n) → IsTrue is ↔ (slice_get ps n ≡ slice_get qs n)
  pub alike : IsTrue heads ↔ AreAlikeTo ps qs number

pub none_yet : (ps qs : List PackageModel) (low high : ℕ) (heads : Bool) → AreSameBut ps qs low high → high ≤ length qs → IsTrue heads ↔ (length ps ≡ length qs) → AreMarkedTo ps qs high low (replicate (length qs) true) heads
none_yet ps qs low high heads same ends long = record {
  low = low;
  but = same;
  within = ends;
  many = length-replicate (length qs) true;
  each = λ n is e which.
      let within : n < length qs = omega (arith, slice_get_within (replicate (length qs) true) n is e, length-replicate (length qs) true) in
      let here : slice_get ps n ≡ slice_get qs n = ⊎_elim (λ (lt : n < low). same.before n lt) (λ (le : high ≤ n). same.behind n le within) which in
      ((λ said. here), (λ equal. sym (at_replicate (length qs) n true is e)));
  alike = ((λ said. (long.0 said, (λ n lt. ap (option_map spelled_head_of) (same.before n lt)))), (λ are. long.1 are.0));
}

pub one_more : (ps qs : List PackageModel) (high k : ℕ) (q : PackageModel) (marks : List Bool) (heads is head both : Bool) → k < length qs → k < high → q ≡ get_or qs k q → AreMarkedTo ps qs high k marks heads → IsMarkOf ps k q is → IsHeadOf ps k q head → IsTrue both ↔ (IsTrue heads × IsTrue head) → AreMarkedTo ps qs high (k + 1) (set marks k is) both
one_more ps qs high k q marks heads is head both lq lh there h says same and =
    let other : slice_get qs k ≡ Some q = slice_get-get_or qs k q lq ∙ ap Some (sym there) in
    record {
      low = h.low;
      but = h.but;
      within = h.within;
      many = length-set marks k is ∙ h.many;
      each = λ n x e which. ⊎_elim
          (λ (number : n ≡ k).
          let set_here : is ≡ x = at_set marks k x is (ap (slice_get (set marks k is)) (sym number) ∙ e) in (
            (λ said. ap (slice_get ps) number ∙ says.0 (subst IsTrue (sym set_here) said) ∙ sym other ∙ ap (slice_get qs) (sym number)),
            (λ equal. subst IsTrue set_here (says.1 (sym (ap (slice_get ps) number) ∙ equal ∙ ap (slice_get qs) number ∙ other))),
          ))
          (λ (apart : n ≢ k). h.each n x (sym (at_other marks k n is apart) ∙ e) (⊎_elim (λ (lt : n < k + 1). (let less : n < k = omega (arith, lt, apart) in inl less)) (λ (le : high ≤ n). inr le) which))
          (cases_eq n k);
      alike = (
        (λ said.
            let two = and.0 said in
            let before = h.alike.0 two.0 in (
              before.0,
              λ n lt. ⊎_elim
                  (λ (less : n < k). before.1 n less)
                  (λ (more : k ≤ n).
                  let number : n ≡ k = omega (arith, lt, more) in
                  subst (AreAlikeAt ps qs) (sym number) (same.0 two.1 ∙ sym (ap (option_map spelled_head_of) other)))
                  (cases_lt n k),
            )),
        (λ are. and.1 (h.alike.1 (are.0, λ n lt. are.1 n (omega (arith, lt))), same.1 (are.1 k (omega arith) ∙ ap (option_map spelled_head_of) other))),
      );
    }

same_images : (ps qs : List PackageModel) → length ps ≡ length qs → ((n : ℕ) → n < length qs → AreAlikeAt ps qs n) → AreSpelledAlike ps qs
same_images [] [] long same = refl
same_images [] (q ∷ qs) long same = absurd (omega (arith, long))
same_images (p ∷ ps) [] long same = absurd (omega (arith, long))
same_images (p ∷ ps) (q ∷ qs) long same =
    let first : spelled_head_of p ≡ spelled_head_of q = (let both : Some (spelled_head_of p) ≡ Some (spelled_head_of q) = same 0 (omega arith) in cc) in
    let rest = same_images ps qs (omega (arith, long)) (λ n lt. same (suc n) (omega (arith, lt))) in
    ap (λ h. h ∷ map spelled_head_of ps) first ∙ ap (λ l. spelled_head_of q ∷ l) rest

alike_to : (ps qs : List PackageModel) (k : ℕ) → AreSpelledAlike ps qs → AreAlikeTo ps qs k
alike_to ps qs k e = (
  same_length spelled_head_of ps qs e,
  λ n lt. sym (slice_get-map spelled_head_of ps n) ∙ ap (λ l. slice_get l n) e ∙ slice_get-map spelled_head_of qs n,
)

pub all_marked : (ps qs : List PackageModel) (high k : ℕ) (marks : List Bool) (heads : Bool) → high ≤ k → AreMarkedTo ps qs high k marks heads → AreSameMarks ps qs marks × (IsTrue heads ↔ AreSpelledAlike ps qs)
all_marked ps qs high k marks heads end h = (
  record { many = h.many; each = λ n is e. h.each n is e (⊎_elim (λ (lt : n < k). inl lt) (λ (le : k ≤ n). (let past : high ≤ n = omega (arith, le, end) in inr past)) (cases_lt n k)) },
  (
    (λ said.
        let all = h.alike.0 said in
        same_images ps qs all.0 (λ n within. ⊎_elim (λ (lt : n < k). all.1 n lt) (λ (le : k ≤ n). ap (option_map spelled_head_of) (h.but.behind n (omega (arith, le, end)) within)) (cases_lt n k))),
    (λ e. h.alike.1 (alike_to ps qs k e)),
  ),
)
