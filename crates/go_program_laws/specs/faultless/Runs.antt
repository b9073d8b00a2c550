-- Programs of workspaces run as their sources mean.
--
-- docs/RULES.md, "Stack code", "Programs". The Go specification, "Program execution".
use Rattle.std.specs.Prelude.{◌≡◌, ℕ, true, List, [], map, Option, Some, Contains, slice_get}
use Rattle.go_tree_nodes.specs.Trees.{FuncTree}
use Rattle.go_meaning_laws.specs.handle_core.Declarations.{Declaration}
use Rattle.go_emit_core.specs.package_core.PackagePartParts.{FileOf, PartModel}
use Rattle.go_code_core.specs.declared.fragments.names.Gives.TheVariants as gives
use Rattle.go_code_core.specs.fragments.Inside.{in_fragment}
use Rattle.go_code_core.specs.Code.{frame_in}
use Rattle.go_meaning_laws.specs.source_meaning.Meaning.{SourceOf}
use Rattle.go_meaning_laws.specs.source_meaning.Whole.{code_of_program}
use Rattle.go_meaning_laws.specs.program_meaning.Laws.{RunsAsMeant}
use Rattle.go_meaning_laws.specs.fitting_sources.Fitting.{IsDeclared}
use Rattle.go_meaning_laws.specs.fitting_sources.Laws.{FunctionFits, IsReached}
use Rattle.go_machine_core.specs.link.Functions.{PlaceModel, all_functions, number_of}
use Rattle.go_machine_core.specs.link.Linked.{IsRunnable, ProgramOf, RunnableOf}
use Rattle.go_emit_core.specs.Emitted.{body_uses, declarations_in, objects_of}

-- a program can be run so, and its functions are the code of sources, of which each that is reached has no faults; those that begin the program take no
-- arguments and give no result. Nothing is asked of a source that is not reached
pub record FitsWhereReached (p : ProgramOf) (sources : List SourceOf) (r : RunnableOf) : Type 0 where
  pub runnable : IsRunnable p r
  pub functions : p.functions ≡ code_of_program sources
  pub fit : (number : ℕ) (s : SourceOf) → IsReached sources r.starts number → slice_get sources number ≡ Some s → in_fragment (frame_in s.looks s.tree) s.tree ≡ true → FunctionFits sources s
  pub starting : (number : ℕ) → Contains r.starts number → IsDeclared sources number gives.Nothing []

-- then it comes to what they mean
abbrev pub ReachedProgramsRun : Type 0
ReachedProgramsRun = (p : ProgramOf) (sources : List SourceOf) (r : RunnableOf) → FitsWhereReached p sources r → RunsAsMeant p sources r.starts

-- the sources of these parts
abbrev pub callees_of : (Declaration → Option PlaceModel) → List PartModel → FileOf → FuncTree → List (Option ℕ)
callees_of place ps f g = map (number_of place (all_functions (objects_of ps))) (declarations_in (body_uses f.answers.uses g))
