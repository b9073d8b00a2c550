-- The actions of a level.
use Rattle.std.specs.Prelude.{◌≡◌, ◌≢◌, ℕ, ⊤, List, [], ◌∷◌, All, Some, slice_get}
use Rattle.go_package_core.specs.package_part.Inputs.{InputModel}
use Rattle.go_batch_core.specs.declared.slot.Slot.{Slot}
use Rattle.go_batch_core.specs.declared.slot.Slot.TheVariants.{Taken}

-- the package of a number is taken with an input, and is none of these
pub record IsFirst (slots : List Slot) (n : ℕ) (i : InputModel) (ns : List ℕ) : Type 0 where
  pub taken : slice_get slots n ≡ Some (Taken 0 i)
  pub apart : All (λ (m : ℕ). m ≢ n) ns

-- the packages of these numbers, which differ, are taken with these inputs, place by place
abbrev pub AreTaken : List Slot → List ℕ → List InputModel → Type 0
AreTaken slots [] [] = ⊤
AreTaken slots [] (i ∷ is) = ⊥
AreTaken slots (n ∷ ns) [] = ⊥
AreTaken slots (n ∷ ns) (i ∷ is) = IsFirst slots n i ns × AreTaken slots ns is
