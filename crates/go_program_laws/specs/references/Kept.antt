-- The functions and methods to which the functions of a program refer, and the runs of programs.
--
-- docs/RULES.md, "Stack code", "Programs". The Go specification, "Calls", "Program initialization and execution".
use Rattle.std.specs.Prelude.{◌≡◌, ℕ, true, List, Option, Some, Contains, slice_get}
use Rattle.go_tree_nodes.specs.Trees.{FileTree, FuncTree}
use Rattle.go_names_core.specs.local_core.Binding.{Local}
use Rattle.go_body_core.specs.env_core.declared.meaning.Meaning.{Meaning as NameMeaning}
use Rattle.go_graph_core.specs.Workspaces.{IsReadWorkspace, PackageModel}
use Rattle.go_emit_core.specs.package_core.PackagePartInputs.{path_in}
use Rattle.go_emit_core.specs.package_core.PackagePartParts.{FileOf, PartModel}
use Rattle.go_emit_core.specs.package_core.PackagePartSlots.{somes}
use Rattle.go_snap_core.specs.whole_workspace.Inputs.{AreParts}
use Rattle.go_code_core.specs.fragments.Inside.{in_fragment}
use Rattle.go_code_core.specs.Code.{frame_in}
use Rattle.go_meaning_laws.specs.program_meaning.Laws.{RunsAsMeant}
use Rattle.go_meaning_laws.specs.fitting_sources.Laws.{IsReached}
use Rattle.go_machine_core.specs.link.Functions.{all_functions, number_of}
use Rattle.go_machine_core.specs.link.Linked.{IsRunnable, RunnableOf, program_of}
use Rattle.go_session_core.specs.launches.Located.{place_declared}
use Rattle.go_emit_core.specs.Emitted.{objects_of}
use Rattle.go_meaning_laws.specs.object_sources.Sources.{sources_of}
use Rattle.go_snap_core.specs.declared.fault.PlacedFault.{PlacedFault}
use Rattle.go_snap_core.specs.Snapshots.{IsSnapshot}
use Rattle.go_workspace_laws.specs.ConstantLaws.{code_names_of}
use Rattle.go_program_laws.specs.types.Functions.{IsFunction, source_with}
use Rattle.go_program_laws.specs.faultless.Called.{AreMethodsKept, AreReferencesKept}
use Rattle.go_program_laws.specs.faultless.Runs.{callees_of}
use Rattle.go_program_laws.specs.references.Reached.{IsInProgram}

-- a function of a part is reached in a program of these parts that can be run, stands in the run fragment, and its package is of the program
pub record IsRun (ps : List PartModel) (main : List ℕ) (r : RunnableOf) (p : PartModel) (n : ℕ) (t : FileTree) (f : FileOf) (g : FuncTree) (all : List (Local NameMeaning)) : Type 0 where
  pub number : ℕ
  pub reached : IsReached (sources_of place_declared ps) r.starts number
  pub part : Contains ps p
  pub in_program : IsInProgram ps main r (path_in p.input)
  pub function : IsFunction p.input p.content n t f g all
  pub there : slice_get (sources_of place_declared ps) number ≡ Some (source_with (code_names_of p.input p.content n f g) (callees_of place_declared ps f g) g)
  pub inside : in_fragment (frame_in (code_names_of p.input p.content n f g) g) g ≡ true

-- each function to which a function of a program refers is there, takes words over the parameters of the signature by which its calls were checked, and gives
-- what the caller's code has for it
abbrev pub ReferencesAreKept : Type 0
ReferencesAreKept =
    (ws : List PackageModel) (parts : List (Option PartModel)) → IsReadWorkspace ws → AreParts ws parts → (main : List ℕ) (r : RunnableOf) → IsRunnable (program_of place_declared (objects_of (somes parts)) main) r
    → (p : PartModel) (n : ℕ) (t : FileTree) (f : FileOf) (g : FuncTree) (all : List (Local NameMeaning)) → IsRun (somes parts) main r p n t f g all
    → AreReferencesKept (sources_of place_declared (somes parts)) (number_of place_declared (all_functions (objects_of (somes parts)))) p.input p.content n t f g all

-- so is each method of a type over `int` or `bool`, which takes a word over its receiver too
abbrev pub MethodsAreKept : Type 0
MethodsAreKept =
    (ws : List PackageModel) (parts : List (Option PartModel)) → IsReadWorkspace ws → AreParts ws parts → (main : List ℕ) (r : RunnableOf) → IsRunnable (program_of place_declared (objects_of (somes parts)) main) r
    → (p : PartModel) (n : ℕ) (t : FileTree) (f : FileOf) (g : FuncTree) (all : List (Local NameMeaning)) → IsRun (somes parts) main r p n t f g all
    → AreMethodsKept (sources_of place_declared (somes parts)) (number_of place_declared (all_functions (objects_of (somes parts)))) p.input p.content n t f g all

-- a program of a snapshot that can be run comes to what its sources mean
abbrev pub ProgramsRun : Type 0
ProgramsRun =
    (ws : List PackageModel) (parts : List (Option PartModel)) (faults : List PlacedFault) → IsReadWorkspace ws → IsSnapshot ws parts faults
    → (main : List ℕ) (r : RunnableOf) → IsRunnable (program_of place_declared (objects_of (somes parts)) main) r
    → RunsAsMeant (program_of place_declared (objects_of (somes parts)) main) (sources_of place_declared (somes parts)) r.starts
