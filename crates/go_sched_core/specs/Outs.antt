-- The actions of the batch that runs that were handed out and are not finished.
use Rattle.std.specs.Prelude.{◌≡◌, ◌≤◌, ℕ, Option, Some, None, slice_get}
use Rattle.go_submit_core.specs.package_core.PackagePartInputs.{InputModel}
use Rattle.go_batch_core.specs.declared.slot.Slot.TheVariants.{Taken}
use Rattle.go_sched_core.specs.Service.{Service}
use Rattle.go_sched_core.specs.declared.running.Running.{Running}

-- the action of the package of this place has this number, and was handed out with this input
abbrev pub IsOut : Option Running → ℕ → ℕ → InputModel → Type 0
IsOut None place number input = ⊥
IsOut (Some r) place number input = slice_get r.batch.slots place ≡ Some (Taken number input)

-- where the action of this number is not finished, it was handed out with this input
abbrev pub KnowsInput : Service → ℕ → InputModel → Type 0
KnowsInput s number input = (place : ℕ) (i : InputModel) → IsOut s.running place number i → i ≡ input

-- their numbers are among those that were given
abbrev pub AreNumbered : Service → Type 0
AreNumbered s = (place number : ℕ) (i : InputModel) → IsOut s.running place number i → number ≤ s.actions
