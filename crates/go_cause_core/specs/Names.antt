-- Names that are refused again.
use Rattle.std.specs.Prelude.{◌≡◌, ◌<◌, ℕ, Bool, false, ◌&&◌, IsTrue, List, Option, Some, None, length, slice_get, nat_eq}
use Rattle.go_snap_core.specs.declared.fault.PlacedFault.{PlacedFault}
use Rattle.go_cause_core.specs.Pairs.{is_n1}

-- both faults are there, of names that are not declared, in one package
abbrev pub repeats : Option PlacedFault → Option PlacedFault → Bool
repeats None again = false
repeats (Some first) None = false
repeats (Some first) (Some again) = is_n1 first.rule && is_n1 again.rule && nat_eq first.«package» again.«package»

-- the fault of a number may be told with an earlier one
abbrev pub IsAgain : List PlacedFault → ℕ → ℕ → Type 0
IsAgain faults number first = (first < number) × IsTrue (repeats (slice_get faults first) (slice_get faults number))

-- of each fault the one that it may be told with
pub record AreRepeated (faults : List PlacedFault) (again : List (Option ℕ)) : Type 0 where
  pub as_many : length again ≡ length faults
  pub each : (number first : ℕ) → slice_get again number ≡ Some (Some first) → IsAgain faults number first
