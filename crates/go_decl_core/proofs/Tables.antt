-- What a search in the table of places finds.
use Rattle.std.proofs.Common.{◌≡◌, ℕ, ◌<◌, ◌≤◌, List, length, get_or, Some, None, option_map, Result, Ok, Err, MatchOption, ap, sym, ◌∙◌, inl, inr, arith}
use Rattle.std.specs.Result.{result_ok}
use Rattle.std.specs.List.Sorted.{IsSearchInRange, IsBinarySearchResult, IsNonDecreasingBy}
use Rattle.std.specs.Ordering.{nat_cmp, ordering_index}
use Rattle.std.proofs.lemmas.Cmp.{ranked}
use Rattle.std.proofs.lemmas.Option.{slice_get_cases}
use Rattle.std.proofs.lemmas.Bool.{cases_lt}
use Rattle.std.proofs.lemmas.Bool.Decides.{nat_tests}
use Rattle.go_decl_core.specs.declared.places.Place.{Place}
use Rattle.go_decl_core.specs.Table.{offset_of, IsAt, IsNowhere, Rise}

-- the comparisons with an offset rise along the table
comparisons_rise : (ps : List Place) (offset : ℕ) → Rise ps → IsNonDecreasingBy (λ p. ordering_index (nat_cmp p.at offset)) ps
comparisons_rise ps offset rise i j d le lt =
    let keys : (get_or ps i d).at ≤ (get_or ps j d).at = grind (arith, rise i j d, λ (same : i ≡ j). ap (λ k. (get_or ps k d).at) same) in
    grind (arith, nat_tests)

-- an offset is that of the element there
pub offset_at : (ps : List Place) (n offset : ℕ) → offset_of ps n ≡ Some offset → (p : Place) × (n < length ps) × (get_or ps n p ≡ p) × (p.at ≡ offset)
offset_at ps n offset h = elim ((slice_get_cases ps n).1) [
  | inl here ↦ (here.0, here.1, here.3, (let e : Some here.0.at ≡ Some offset = sym (ap (option_map (λ p. p.at)) here.2) ∙ h in cc))
  | inr past ↦ (let e : None ≡ Some offset = sym (ap (option_map (λ p. p.at)) past.1) ∙ h in cc)
]

pub searched : (ps : List Place) (offset : ℕ) (r : Result ℕ ℕ) → Rise ps → IsSearchInRange r (length ps) → IsBinarySearchResult (λ p. nat_cmp p.at offset) ps r → MatchOption (result_ok r) (IsNowhere ps offset) (IsAt ps offset)
searched ps offset (Ok n) rise lt equal =
    let cases = (slice_get_cases ps n).1 in
    elim cases [
      | inl here ↦ ap (option_map (λ p. p.at)) here.2 ∙ ap Some (ap (λ p. p.at) (sym here.3) ∙ ranked _ offset _ (sym (equal here.0)))
      | inr past ↦ absurd (omega (arith, lt, past.0))
    ]
searched ps offset (Err k) rise le parted = λ n h.
    let at = offset_at ps n offset h in
    let p = at.0 in
    let here : (get_or ps n p).at ≡ offset = ap (λ p. p.at) at.2 ∙ at.3 in
    let split = parted (comparisons_rise ps offset rise) in
    elim (cases_lt n k) [
      | inl before ↦ (let less : (get_or ps n p).at < offset = ranked _ offset _ (sym (split.0 n p (omega arith) before)) in omega (arith, less, here))
      | inr behind ↦ (let more : offset < (get_or ps n p).at = ranked _ offset _ (sym (split.1 n p behind at.1)) in omega (arith, more, here))
    ]
