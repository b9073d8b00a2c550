-- The law of runs of sources.
use Rattle.std.specs.Prelude.{◌≡◌, ℕ, ◌≤◌, List}
use Rattle.go_machine_core.specs.declared.state.PanicValue.{PanicValue}
use Rattle.go_machine_core.specs.Machine.{Ended, Panicked as PanickedRun, Spent}
use Rattle.go_machine_core.specs.link.Linked.{IsRunnable, ProgramOf, RunnableOf}
use Rattle.go_machine_core.specs.runs.Runs.{GetsStuck, Gives}
use Rattle.go_meaning_laws.specs.source_meaning.Meaning.{Done, Panicked, Unfinished, SourceOf}
use Rattle.go_meaning_laws.specs.source_meaning.Whole.{code_of_program, meaning}
use Rattle.go_meaning_laws.specs.source_meaning.Laws.{Begins, HasMeaning, Prints}

-- a program can be run so, and its functions are the code of sources that mean something from where it begins
pub record IsMeant (p : ProgramOf) (sources : List SourceOf) (r : RunnableOf) : Type 0 where
  pub runnable : IsRunnable p r
  pub functions : p.functions ≡ code_of_program sources
  pub meant : HasMeaning sources r.starts

-- what a program comes to is what sources mean, from the functions of these numbers on
pub record RunsAsMeant (p : ProgramOf) (sources : List SourceOf) (starts : List ℕ) : Type 0 where
  pub ends : (n : ℕ) (out : List ℕ) → meaning sources starts n ≡ Done tt out → (steps : ℕ) × Gives p steps (Ended out)
  pub ends_only : (steps : ℕ) (out : List ℕ) → Gives p steps (Ended out) → (n : ℕ) × (meaning sources starts n ≡ Done tt out)
  pub panics : (n : ℕ) (value : PanicValue) (out : List ℕ) → meaning sources starts n ≡ Panicked value out → (steps : ℕ) × Gives p steps (PanickedRun value out)
  pub panics_only : (steps : ℕ) (value : PanicValue) (out : List ℕ) → Gives p steps (PanickedRun value out) → (n : ℕ) × (meaning sources starts n ≡ Panicked value out)
  pub never_stuck : (steps : ℕ) → GetsStuck p steps → ⊥
  pub goes_on : (n : ℕ) (out : List ℕ) → meaning sources starts n ≡ Unfinished out → (steps : ℕ) × (n ≤ steps) × Gives p steps (Spent out)
  pub goes_on_only : (steps : ℕ) (out : List ℕ) → Gives p steps (Spent out) → (n : ℕ) × (steps ≤ n) × (text : List ℕ) × Prints (meaning sources starts n) text × Begins out text

abbrev pub ProgramsRunAsMeant : Type 0
ProgramsRunAsMeant = (p : ProgramOf) (sources : List SourceOf) (r : RunnableOf) → IsMeant p sources r → RunsAsMeant p sources r.starts
