-- Names that are listed form by form.
use Rattle.std.specs.Prelude.{◌≡◌, ◌↔◌, ◌⊎◌, ◌<◌, ℕ, List, [], ◌∷◌, ◌++◌, All, AllPairs, Contains}
use Rattle.std.specs.List.Sorted.{IsStrictlySortedBy}
use Rattle.go_graph_core.specs.Workspaces.{by_bytes}
use Rattle.go_reference_core.specs.forms.Forms.{FittingModel, IsAmongFirst, IsBefore, IsFirst}

-- the names of each form are in byte order
abbrev pub AreRising : List (List (List ℕ)) → Type 0
AreRising all = All (IsStrictlySortedBy by_bytes) all

-- a name of the form of a number is added, where no earlier form has it
abbrev pub AddsFirst : List (List (List ℕ)) → ℕ → List ℕ → List FittingModel → List FittingModel → Type 0
AddsFirst all form name old new =
    (IsAmongFirst all form name × (new ≡ old)) ⊎ ((IsAmongFirst all form name → ⊥) × (new ≡ old ++ record { name = name; form = form } ∷ []))

-- those of the forms in front of a number are listed, and of its own those that stand in byte order in front of a place
pub record AreListed (all : List (List (List ℕ))) (form : ℕ) (before : List (List ℕ)) (found : List FittingModel) : Type 0 where
  pub ordered : AllPairs IsBefore found
  pub same : (x : FittingModel) → Contains found x ↔ (IsFirst all x × ((x.form < form) ⊎ ((x.form ≡ form) × Contains before x.name)))

-- each name with the first form that has it, in order, each once
pub record AreFirst (all : List (List (List ℕ))) (found : List FittingModel) : Type 0 where
  pub ordered : AllPairs IsBefore found
  pub same : (x : FittingModel) → Contains found x ↔ IsFirst all x
