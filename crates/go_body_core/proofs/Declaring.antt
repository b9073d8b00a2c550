-- The locals among what some names mean, two lists in step.
use Rattle.std.proofs.Common.{◌≡◌, Bool, List, [], ◌∷◌, ◌++◌, refl, sym, ap, ◌∙◌, append_assoc, append-nil}
use Rattle.go_env_core.specs.declared.meaning.Meaning.{Meaning}
use Rattle.go_body_core.specs.Notes.{TheLocal}
use Rattle.go_body_core.specs.Rules.{local_if, declared_among}

pub none_meant : (fs : List Bool) → declared_among fs [] ≡ []
none_meant [] = refl
none_meant (f ∷ fs) = refl

module _ (before all : List TheLocal) where
  pub declare_step : (fs gs : List Bool) (ms ns : List Meaning) (f : Bool) (m : Meaning) (after : List TheLocal) → fs ≡ f ∷ gs → ms ≡ m ∷ ns → after ≡ before ++ local_if f m
      → before ++ declared_among fs ms ≡ all → after ++ declared_among gs ns ≡ all
  declare_step fs gs ms ns f m after a b added h =
      ap (λ l. l ++ declared_among gs ns) added ∙ (append_assoc before (local_if f m) (declared_among gs ns) ∙ (sym (λ i. before ++ declared_among (a i) (b i)) ∙ h))

  pub no_firsts : (fs : List Bool) (ms : List Meaning) → fs ≡ [] → before ++ declared_among fs ms ≡ all → before ≡ all
  no_firsts fs ms e h = sym (append-nil before) ∙ (sym (ap (λ l. before ++ declared_among l ms) e) ∙ h)

  pub no_means : (fs : List Bool) (ms : List Meaning) → ms ≡ [] → before ++ declared_among fs ms ≡ all → before ≡ all
  no_means fs ms e h = sym (append-nil before) ∙ (sym (ap (λ l. before ++ l) (ap (declared_among fs) e ∙ none_meant fs)) ∙ h)
