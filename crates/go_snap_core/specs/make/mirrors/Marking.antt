-- Inputs that look alike where it is known which packages tell what was told earlier.
use Rattle.std.specs.Prelude.{◌≡◌, ℕ, Bool, true, List, Some, All, map, slice_get}
use Rattle.go_report_core.specs.summary_core.Summaries.{path_of}
use Rattle.go_emit_core.specs.package_core.PackagePartInputs.{InputModel}

-- all these numbers are marked
abbrev pub AllMarked : List Bool → List ℕ → Type 0
AllMarked marks numbers = All (λ n. slice_get marks n ≡ Some true) numbers

-- two inputs are alike where what is reached is not looked into: it is of the same packages, which are all marked
pub record LookAlike (marks : List Bool) (numbers : List ℕ) (i j : InputModel) : Type 0 where
  pub source : i.source ≡ j.source
  pub imports : i.imports ≡ j.imports
  pub paths : map path_of i.reached ≡ map path_of j.reached
  pub marked : AllMarked marks numbers
