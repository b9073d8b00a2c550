-- Values that fit, one by one.
use Rattle.std.proofs.Common.{◌≡◌, ◌+◌, ◌<◌, ◌≤◌, ◌⊎◌, ℕ, true, List, Option, length, inl, inr, ap, subst, arith}
use Rattle.std.specs.Prelude.{slice_get}
use Rattle.std.proofs.lemmas.Bool.{cases_lt}
use Rattle.std.proofs.lemmas.Option.{slice_get_past}
use Rattle.go_stmt_core.specs.operand_core.TypeRules.{TypeRules}
use Rattle.go_stmt_core.specs.denote_core.declared.things.Argument.{Argument}
use Rattle.go_judge_core.specs.Misfits.{IsFirstMisfit, fits_number, fits_there}

module _ {T : Type 0} (rules : TypeRules T) (values : List (Argument T)) (wanted : List (Option T)) where
  -- after the last value nothing is amiss
  pub fits_past : (n : ℕ) → length values ≤ n → fits_number rules values wanted n ≡ true
  fits_past n past = ap (λ v. fits_there rules v (slice_get wanted n)) (slice_get_past values n past)

  fits_either : (count n : ℕ) → length values ≤ count → ((m : ℕ) → m < count → fits_number rules values wanted m ≡ true) → (n < count) ⊎ (count ≤ n) → fits_number rules values wanted n ≡ true
  fits_either count n all before (inl in_front) = before n in_front
  fits_either count n all before (inr past) = fits_past n (omega (arith, all, past))

  -- where as many fit as there are values, all fit
  pub all_fit : (count : ℕ) → length values ≤ count → ((m : ℕ) → m < count → fits_number rules values wanted m ≡ true) → (n : ℕ) → fits_number rules values wanted n ≡ true
  all_fit count all before n = fits_either count n all before (cases_lt n count)

  fits_so_far : (count n : ℕ) → ((m : ℕ) → m < count → fits_number rules values wanted m ≡ true) → fits_number rules values wanted count ≡ true → n < count + 1 → (n < count) ⊎ (count ≤ n) → fits_number rules values wanted n ≡ true
  fits_so_far count n before here lt (inl in_front) = before n in_front
  fits_so_far count n before here lt (inr past) =
      let same : count ≡ n = omega (arith, lt, past) in
      subst (λ (m : ℕ). fits_number rules values wanted m ≡ true) same here

  -- one more that fits
  pub one_more_fits : (count : ℕ) → ((m : ℕ) → m < count → fits_number rules values wanted m ≡ true) → fits_number rules values wanted count ≡ true → (n : ℕ) → n < count + 1 → fits_number rules values wanted n ≡ true
  one_more_fits count before here n lt = fits_so_far count n before here lt (cases_lt n count)

-- the same of lists that are equal
pub misfit_alike : {T : Type 0} (rules : TypeRules T) (vs ws : List (Argument T)) (ts us : List (Option T)) (found : Option ℕ) → vs ≡ ws → ts ≡ us → IsFirstMisfit rules vs ts found → IsFirstMisfit rules ws us found
misfit_alike {T = T} rules vs ws ts us found given wanted first =
    subst (λ (xs : List (Argument T)). IsFirstMisfit rules xs us found) given (subst (λ (ys : List (Option T)). IsFirstMisfit rules vs ys found) wanted first)
