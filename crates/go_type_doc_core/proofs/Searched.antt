-- What a search for a number among declarations finds.
use Rattle.std.proofs.Common.{◌≡◌, ℕ, zero, suc, ◌<◌, ◌≤◌, List, [], ◌∷◌, length, get_or, map, Some, None, slice_get, Result, Ok, Err, MatchOption, refl, sym, ap, ◌∙◌, subst, inl, inr, arith}
use Rattle.std.specs.Prelude.{AllPairs, option_map}
use Rattle.std.specs.Result.{result_ok}
use Rattle.std.specs.List.Sorted.{IsSearchInRange, IsBinarySearchResult, IsNonDecreasingBy}
use Rattle.std.specs.Ordering.{nat_cmp, ordering_index}
use Rattle.std.proofs.lemmas.Cmp.{ranked}
use Rattle.std.proofs.lemmas.List.{length-map}
use Rattle.std.proofs.lemmas.Option.{same_Some, slice_get-map, slice_get_cases}
use Rattle.std.proofs.lemmas.Bool.{cases_lt}
use Rattle.std.proofs.lemmas.Bool.Decides.{nat_tests}
use Rattle.go_term_core.specs.decl_core.Shown.{decl_shown}
use Rattle.go_term_core.specs.decl_core.TopDecls.{TopDeclTree}
use Rattle.go_term_core.specs.decl_core.declared.tops.TopDecl.{TopDecl}
use Rattle.go_doc_core.specs.symbol.mirrors.Docs.{AreRising, HasNumber, HasNumberAt}

mapped_at : {A B : Type 0} (f : A → B) (xs : List A) (i : ℕ) (d : A) → get_or (map f xs) i (f d) ≡ f (get_or xs i d)
mapped_at f [] i d = refl
mapped_at f (x ∷ xs) zero d = refl
mapped_at f (x ∷ xs) (suc i) d = mapped_at f xs i d

up : (ds : List TopDecl) → AreRising (map decl_shown ds) → AllPairs (λ (a b : TopDecl). a.number < b.number) ds
up ds rises i j d less lt =
    let many = length-map ds decl_shown in
    let long : j < length (map decl_shown ds) = omega (arith, lt, many) in
    let here = rises i j (decl_shown d) less long in
    subst (λ (k : TopDeclTree). k.number < (get_or ds j d).number) (mapped_at decl_shown ds i d)
    (subst (λ (k : TopDeclTree). (get_or (map decl_shown ds) i (decl_shown d)).number < k.number) (mapped_at decl_shown ds j d) here)

-- the comparisons with a number rise along the declarations
comparisons_rise : (ds : List TopDecl) (number : ℕ) → AllPairs (λ (a b : TopDecl). a.number < b.number) ds → IsNonDecreasingBy (λ (d : TopDecl). ordering_index (nat_cmp d.number number)) ds
comparisons_rise ds number rise i j d le lt =
    let keys : (get_or ds i d).number ≤ (get_or ds j d).number = grind (arith, rise i j d, λ (same : i ≡ j). ap (λ k. (get_or ds k d).number) same) in
    grind (arith, nat_tests)

-- what is shown at a place is of the declaration there
pub shown_there : (ds : List TopDecl) (place : ℕ) (there : TopDeclTree) → slice_get (map decl_shown ds) place ≡ Some there → (p : TopDecl) × (place < length ds) × (get_or ds place p ≡ p) × (decl_shown p ≡ there)
shown_there ds place there h = elim ((slice_get_cases ds place).1) [
  | inl here ↦ (here.0, here.1, here.3, same_Some (decl_shown here.0) there (sym (ap (option_map decl_shown) here.2) ∙ (sym (slice_get-map decl_shown ds place) ∙ h)))
  | inr past ↦ (let e : None ≡ Some there = sym (ap (option_map decl_shown) past.1) ∙ (sym (slice_get-map decl_shown ds place) ∙ h) in cc)
]

pub searched : (ds : List TopDecl) (number : ℕ) (r : Result ℕ ℕ) → AreRising (map decl_shown ds) → IsSearchInRange r (length ds) → IsBinarySearchResult (λ (d : TopDecl). nat_cmp d.number number) ds r
    → MatchOption (result_ok r) (¬ HasNumber (map decl_shown ds) number) (λ place. (place < length ds) × HasNumberAt (map decl_shown ds) place number)
searched ds number (Ok n) rise lt equal =
    let cases = (slice_get_cases ds n).1 in
    elim cases [
      | inl here ↦ (
        lt,
        (
          decl_shown here.0,
          slice_get-map decl_shown ds n ∙ ap (option_map decl_shown) here.2,
          ap (λ (p : TopDecl). p.number) (sym here.3) ∙ ranked _ number _ (sym (equal here.0)),
        ),
      )
      | inr past ↦ absurd (omega (arith, lt, past.0))
    ]
searched ds number (Err k) rise le parted = λ h.
    let at = shown_there ds h.0 h.1.0 h.1.1 in
    let p = at.0 in
    let here : (get_or ds h.0 p).number ≡ number = ap (λ (q : TopDecl). q.number) at.2 ∙ (ap (λ (q : TopDeclTree). q.number) at.3 ∙ h.1.2) in
    let split = parted (comparisons_rise ds number (up ds rise)) in
    elim (cases_lt h.0 k) [
      | inl before ↦ (let less : (get_or ds h.0 p).number < number = ranked _ number _ (sym (split.0 h.0 p (omega arith) before)) in omega (arith, less, here))
      | inr behind ↦ (let more : number < (get_or ds h.0 p).number = ranked _ number _ (sym (split.1 h.0 p behind at.1)) in omega (arith, more, here))
    ]
