-- Programs that fit mean something.
use Rattle.std.specs.Prelude.{◌≡◌, ◌⊎◌, ℕ, false, true, List, [], Some, Contains, slice_get}
use Rattle.go_code_core.specs.declared.fragments.names.Gives.TheVariants as gives
use Rattle.go_code_core.specs.fragments.Inside.{in_fragment}
use Rattle.go_code_core.specs.Code.{frame_in}
use Rattle.go_meaning_laws.specs.source_meaning.Meaning.{SourceOf, params_of}
use Rattle.go_meaning_laws.specs.source_meaning.Laws.{HasMeaning}
use Rattle.go_meaning_laws.specs.fitting_sources.Ends.{lines_break, lines_continue, lines_terminate}
use Rattle.go_meaning_laws.specs.fitting_sources.Fitting.{AreTypedAs, IsDeclared, LinesFit, Typing, given_by, taken_by}

-- a function of a program that has no faults, where it stands in the run fragment
pub record FunctionFits (program : List SourceOf) (s : SourceOf) : Type 0 where
  -- what its variables are over
  pub typing : Typing
  pub params : AreTypedAs typing (params_of s.tree) (taken_by s)
  pub body : LinesFit program s typing (params_of s.tree) s.tree.body
  -- each `break` and each `continue` has a `for` around it
  pub no_break : lines_break s.tree.body ≡ false
  pub no_continue : lines_continue s.tree.body ≡ false
  -- where it has a result, its body ends in a terminating statement
  pub ends : (given_by s ≡ gives.Nothing) ⊎ (lines_terminate s.looks s.tree.body ≡ true)

-- the numbers of the functions to which references lead from those that begin a program
pub data IsReached (program : List SourceOf) (starts : List ℕ) : ℕ → Type 0 where
  Begins : {number : ℕ} → Contains starts number → IsReached program starts number
  IsCalled : {number callee : ℕ} {s : SourceOf} → IsReached program starts number → slice_get program number ≡ Some s → Contains s.callees (Some callee) → IsReached program starts callee

-- a program that begins with functions without arguments and results, and whose functions that are reached are such
pub record ProgramFits (program : List SourceOf) (starts : List ℕ) : Type 0 where
  pub inside : (number : ℕ) (s : SourceOf) → IsReached program starts number → slice_get program number ≡ Some s → in_fragment (frame_in s.looks s.tree) s.tree ≡ true
  pub functions : (number : ℕ) (s : SourceOf) → IsReached program starts number → slice_get program number ≡ Some s → FunctionFits program s
  pub starting : (number : ℕ) → Contains starts number → IsDeclared program number gives.Nothing []

abbrev pub FittingMeansSomething : Type 0
FittingMeansSomething = (program : List SourceOf) (starts : List ℕ) → ProgramFits program starts → HasMeaning program starts
