-- Laws of the machine.
use Rattle.std.specs.Prelude.{◌≡◌, ℕ, zero, suc, ◌+◌, ◌⊎◌, List, ◌++◌, ℤ, pos, Option, Some}
use Rattle.go_machine_core.specs.Programs.{LinkedOf}
use Rattle.go_machine_core.specs.Words.{inverted, equal, differs, less, at_most, greater, at_least}
use Rattle.go_machine_core.specs.Machine.{Frame, Run, Ended, Panicked, Spent, Stuck, Machine, At, Over, step, started, machine}

-- one step of a machine that is not over
abbrev pub stepped : List LinkedOf → Machine → Machine
stepped program (At f callers out) = step program f callers out
stepped program (Over run) = Over run

-- so many steps
abbrev pub steps_on : List LinkedOf → ℕ → Machine → Machine
steps_on program zero c = c
steps_on program (suc n) c = steps_on program n (stepped program c)

-- a run that spent its steps did all of them, and is at its next instruction
abbrev pub SpentMeansAllSteps : Type 0
SpentMeansAllSteps =
    (program : List LinkedOf) (starts : List ℕ) (steps : ℕ) (out : List ℕ) → machine program starts steps ≡ Spent out
    → (frame : Frame) × (callers : List Frame) × (steps_on program steps (started program starts) ≡ At frame callers out)

-- what a run printed
abbrev pub printed : Run → List ℕ
printed (Ended out) = out
printed (Panicked value out) = out
printed (Spent out) = out
printed (Stuck out) = out

-- the run is over, or else it spent its steps
abbrev pub Goes : Run → Run → Type 0
Goes (Spent out) later = (more : List ℕ) × (printed later ≡ out ++ more)
Goes run later = later ≡ run

-- with more steps a run that was over comes to the same, and one that spent its steps goes on where it was: what it printed stays
abbrev pub BudgetsAgree : Type 0
BudgetsAgree = (program : List LinkedOf) (starts : List ℕ) (steps more : ℕ) → Goes (machine program starts steps) (machine program starts (steps + more))

-- a boolean is 0 or 1
abbrev pub IsBit : ℤ → Type 0
IsBit v = (v ≡ pos 0) ⊎ (v ≡ pos 1)

abbrev pub GivesBit : (ℤ → ℤ → Option ℤ) → Type 0
GivesBit op = (x y : ℤ) → (v : ℤ) × (op x y ≡ Some v) × IsBit v

-- what compares words, and what turns a truth round, gives 0 or 1
pub record TruthsAreBits : Type 0 where
  pub turned : (x : ℤ) → IsBit (inverted x)
  pub same : GivesBit equal
  pub other : GivesBit differs
  pub below : GivesBit less
  pub within : GivesBit at_most
  pub above : GivesBit greater
  pub beyond : GivesBit at_least
