-- What is answered of a run.
use Rattle.std.specs.Prelude.{◌≡◌, ℕ, true, false, List, [], ◌++◌, codes, string_bytes}
use Rattle.std.specs.Fmt.{signed_decimal}
use Rattle.go_machine_core.specs.declared.state.PanicValue.{PanicValue}
use Rattle.go_machine_core.specs.declared.state.PanicValue.TheVariants as panics
use Rattle.go_machine_core.specs.declared.runs.outcome.Run.{Run}
use Rattle.go_machine_core.specs.declared.runs.outcome.Run.TheVariants as runs
use Rattle.govisd_folders.specs.declared.checking.CheckAnswer.{CheckAnswer}

-- nothing ran: this is said, and nothing is written
pub record NothingRan (said : List ℕ) (a : CheckAnswer) : Type 0 where
  pub status : a.status ≡ 1
  pub text : string_bytes a.text ≡ []
  pub says : string_bytes a.said ≡ said

-- a program ran: what it printed is written, and how it was left is told by a status and by what is said
pub record HasRun (left : ℕ) (output said : List ℕ) (a : CheckAnswer) : Type 0 where
  pub status : a.status ≡ left
  pub text : string_bytes a.text ≡ output
  pub says : string_bytes a.said ≡ said

-- what a program panicked with, as Go's runtime names it: an `int` and a `bool` as `println` writes it
abbrev pub value_text : PanicValue → List ℕ
value_text panics.DivideByZero = codes "runtime error: integer divide by zero"
value_text (panics.Int x) = signed_decimal x
value_text (panics.Bool true) = codes "true"
value_text (panics.Bool false) = codes "false"

abbrev pub panic_text : PanicValue → List ℕ
panic_text value = codes "panic: " ++ (value_text value ++ codes "\n")

-- what a run came to is told: 0 where it ended, 2 where it panicked, 3 where its steps are done
abbrev pub TellsRun : Run → CheckAnswer → Type 0
TellsRun (runs.Ended output) a = HasRun 0 (string_bytes output) [] a
TellsRun (runs.Panicked value output) a = HasRun 2 (string_bytes output) (panic_text value) a
TellsRun (runs.Spent output) a = HasRun 3 (string_bytes output) (codes "govisd: the steps are done, and the program goes on\n") a
