-- The law of stack code.
use Rattle.std.specs.Prelude.{◌≡◌, ◌≢◌, ℕ, ◌≤◌, List, ◌++◌, Some}
use Rattle.go_machine_core.specs.declared.state.PanicValue.{PanicValue}
use Rattle.go_machine_core.specs.Machine.{Frame, Ended, Panicked as PanickedRun, Spent, Stuck, all_begun, machine}
use Rattle.go_meaning_laws.specs.source_meaning.Meaning.{Outcome, Done, Panicked, Unfinished, Nonsense, SourceOf}
use Rattle.go_meaning_laws.specs.source_meaning.Whole.{code_of_program, meaning}

-- what was printed is a beginning of some text
abbrev pub Begins : List ℕ → List ℕ → Type 0
Begins out text = (more : List ℕ) × (text ≡ out ++ more)

-- what an outcome printed
abbrev pub Prints : Outcome (Unit {0}) → List ℕ → Type 0
Prints (Done a out) text = out ≡ text
Prints (Panicked value out) text = out ≡ text
Prints (Unfinished out) text = out ≡ text
Prints Nonsense text = ⊥

-- the functions that begin the program are there, and the source means something, whatever the bounds
pub record HasMeaning (program : List SourceOf) (starts : List ℕ) : Type 0 where
  pub frames : List Frame
  pub all_there : all_begun (code_of_program program) starts ≡ Some frames
  pub meant : (n : ℕ) → meaning program starts n ≢ Nonsense

-- the code does what the source means
pub record DoesWhatItMeans (program : List SourceOf) (starts : List ℕ) : Type 0 where
  pub ends : (n : ℕ) (out : List ℕ) → meaning program starts n ≡ Done tt out → (m : ℕ) × (machine (code_of_program program) starts m ≡ Ended out)
  pub ends_only : (m : ℕ) (out : List ℕ) → machine (code_of_program program) starts m ≡ Ended out → (n : ℕ) × (meaning program starts n ≡ Done tt out)
  pub panics : (n : ℕ) (value : PanicValue) (out : List ℕ) → meaning program starts n ≡ Panicked value out → (m : ℕ) × (machine (code_of_program program) starts m ≡ PanickedRun value out)
  pub panics_only : (m : ℕ) (value : PanicValue) (out : List ℕ) → machine (code_of_program program) starts m ≡ PanickedRun value out → (n : ℕ) × (meaning program starts n ≡ Panicked value out)
  pub never_stuck : (m : ℕ) (out : List ℕ) → machine (code_of_program program) starts m ≢ Stuck out
  pub goes_on : (n : ℕ) (out : List ℕ) → meaning program starts n ≡ Unfinished out → (m : ℕ) × (n ≤ m) × (machine (code_of_program program) starts m ≡ Spent out)
  pub goes_on_only : (m : ℕ) (out : List ℕ) → machine (code_of_program program) starts m ≡ Spent out → (n : ℕ) × (m ≤ n) × (text : List ℕ) × Prints (meaning program starts n) text × Begins out text

-- of any program that means something
abbrev pub MeantCodeMeansTheSource : Type 0
MeantCodeMeansTheSource = (program : List SourceOf) (starts : List ℕ) → HasMeaning program starts → DoesWhatItMeans program starts
