-- Laws of runs.
use Rattle.std.specs.Prelude.{◌≡◌, ℕ, Bool, List, ◌∷◌, ◌++◌, Some, Contains, slice_get}
use Rattle.go_machine_core.specs.Machine.{Frame, Spent, At, started}
use Rattle.go_machine_core.specs.Laws.{steps_on}
use Rattle.go_machine_core.specs.link.Packages.{PackageOf}
use Rattle.go_machine_core.specs.link.Order.{imports_in, initialised}
use Rattle.go_machine_core.specs.link.Linked.{HasNoMain, IsBeyond, IsBegun, IsRunnable, ProgramOf, RunnableOf}
use Rattle.go_machine_core.specs.runs.Runs.{Gives}

-- no two of what is said of a program hold, and what begins it is one
pub record AnswersAreOne : Type 0 where
  pub one : (p : ProgramOf) (r s : RunnableOf) → IsBegun p r → IsBegun p s → r ≡ s
  pub no_main : (p : ProgramOf) (r : RunnableOf) → IsRunnable p r → HasNoMain p → ⊥
  pub beyond : (p : ProgramOf) (r : RunnableOf) → IsRunnable p r → IsBeyond p → ⊥
  pub main_first : (p : ProgramOf) → IsBeyond p → HasNoMain p → ⊥

-- of the packages that are initialised each stands behind those that it imports
abbrev pub ImportsComeFirst : Type 0
ImportsComeFirst =
    (ps : List PackageOf) (order : List ℕ) (marks : List Bool) (before behind : List ℕ) (n other : ℕ) → initialised ps order marks ≡ before ++ n ∷ behind
    → Contains (imports_in (slice_get ps n)) (Some other) → Contains before other

-- a run that is answered to be spent did all its steps, and the program is at its next instruction
abbrev pub SpentDoesAllSteps : Type 0
SpentDoesAllSteps =
    (p : ProgramOf) (steps : ℕ) (out : List ℕ) → Gives p steps (Spent out)
    → (r : RunnableOf) × IsRunnable p r × (frame : Frame) × (callers : List Frame) × (steps_on r.functions steps (started r.functions r.starts) ≡ At frame callers out)
