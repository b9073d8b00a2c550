-- Faults with those that they follow from.
use Rattle.std.proofs.Common.{◌≡◌, ◌∙◌, ℕ, List, [], ◌∷◌, ◌++◌, Option, append_assoc, refl, sym, ap}
use Rattle.std.proofs.lemmas.List.{append-nil}
use Rattle.go_diagnostic_core.specs.snap_core.declared.fault.PlacedFault.{PlacedFault}
use Rattle.govisd_folders.specs.Selecting.{joined_by, joined_cause, root_of, told_by, told_of}
use Rattle.go_cause_core.specs.declared.cause.Cause.{Cause}
use Rattle.govisd_folders.specs.declared.selecting.Told.{Told}

module _ (every : List PlacedFault) (before all : List Told) where
  -- one more fault
  pub told_step : (fs gs : List PlacedFault) (cs ds : List Cause) (f : PlacedFault) (c : Cause) (after : List Told) → fs ≡ f ∷ gs → cs ≡ c ∷ ds → after ≡ before ++ told_of f (root_of every c) ∷ []
      → before ++ told_by every fs cs ≡ all → after ++ told_by every gs ds ≡ all
  told_step fs gs cs ds f c after a b added h =
      ap (λ l. l ++ told_by every gs ds) added ∙ (append_assoc before (told_of f (root_of every c) ∷ []) (told_by every gs ds) ∙ (sym (λ i. before ++ told_by every (a i) (b i)) ∙ h))

  none_told : (fs : List PlacedFault) → told_by every fs [] ≡ []
  none_told [] = refl
  none_told (f ∷ fs) = refl

  pub no_faults : (fs : List PlacedFault) (cs : List Cause) → fs ≡ [] → before ++ told_by every fs cs ≡ all → before ≡ all
  no_faults fs cs e h = sym (append-nil before) ∙ (sym (ap (λ l. before ++ told_by every l cs) e) ∙ h)

  pub no_causes : (fs : List PlacedFault) (cs : List Cause) → cs ≡ [] → before ++ told_by every fs cs ≡ all → before ≡ all
  no_causes fs cs e h = sym (append-nil before) ∙ (sym (ap (λ l. before ++ l) (ap (told_by every fs) e ∙ none_told fs)) ∙ h)

-- where faults stand, with names that are refused again
module _ (before all : List Cause) where
  -- one more fault
  pub joined_step : (cs ds : List Cause) (rs ss : List (Option ℕ)) (c : Cause) (a : Option ℕ) (after : List Cause) → cs ≡ c ∷ ds → rs ≡ a ∷ ss → after ≡ before ++ joined_cause c a ∷ []
      → before ++ joined_by cs rs ≡ all → after ++ joined_by ds ss ≡ all
  joined_step cs ds rs ss c a after p q added h =
      ap (λ l. l ++ joined_by ds ss) added ∙ (append_assoc before (joined_cause c a ∷ []) (joined_by ds ss) ∙ (sym (λ i. before ++ joined_by (p i) (q i)) ∙ h))

  none_joined : (cs : List Cause) → joined_by cs [] ≡ []
  none_joined [] = refl
  none_joined (c ∷ cs) = refl

  pub causes_ended : (cs : List Cause) (rs : List (Option ℕ)) → cs ≡ [] → before ++ joined_by cs rs ≡ all → before ≡ all
  causes_ended cs rs e h = sym (append-nil before) ∙ (sym (ap (λ l. before ++ joined_by l rs) e) ∙ h)

  pub names_ended : (cs : List Cause) (rs : List (Option ℕ)) → rs ≡ [] → before ++ joined_by cs rs ≡ all → before ≡ all
  names_ended cs rs e h = sym (append-nil before) ∙ (sym (ap (λ l. before ++ l) (ap (joined_by cs) e ∙ none_joined cs)) ∙ h)
