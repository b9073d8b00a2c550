-- Programs that fit run as they mean.
use Rattle.std.specs.Prelude.{◌≡◌, ℕ, true, List, [], Some, Contains, slice_get}
use Rattle.go_code_core.specs.declared.fragments.names.Gives.TheVariants as gives
use Rattle.go_code_core.specs.fragments.Inside.{in_fragment}
use Rattle.go_code_core.specs.Code.{frame_in}
use Rattle.go_machine_core.specs.link.Linked.{IsRunnable, ProgramOf, RunnableOf}
use Rattle.go_meaning_laws.specs.source_meaning.Meaning.{SourceOf}
use Rattle.go_meaning_laws.specs.source_meaning.Whole.{code_of_program}
use Rattle.go_meaning_laws.specs.program_meaning.Laws.{RunsAsMeant}
use Rattle.go_meaning_laws.specs.fitting_sources.Fitting.{IsDeclared}
use Rattle.go_meaning_laws.specs.fitting_sources.Laws.{FunctionFits}

-- a program can be run so, and its functions are the code of sources, of which each that stands in the run fragment has no faults; those that begin the
-- program take no arguments and give no result
pub record FitsAsRun (p : ProgramOf) (sources : List SourceOf) (r : RunnableOf) : Type 0 where
  pub runnable : IsRunnable p r
  pub functions : p.functions ≡ code_of_program sources
  pub fit : (number : ℕ) (s : SourceOf) → slice_get sources number ≡ Some s → in_fragment (frame_in s.looks s.tree) s.tree ≡ true → FunctionFits sources s
  pub starting : (number : ℕ) → Contains r.starts number → IsDeclared sources number gives.Nothing []

abbrev pub FittingProgramsRunAsMeant : Type 0
FittingProgramsRunAsMeant = (p : ProgramOf) (sources : List SourceOf) (r : RunnableOf) → FitsAsRun p sources r → RunsAsMeant p sources r.starts
