-- Programs run as their sources mean.
use Rattle.std.proofs.Common.{◌≡◌, ℕ, true, List, Option, Some, Contains, sym, ◌∙◌, subst}
use Rattle.std.specs.Prelude.{slice_get}
use Rattle.go_graph_core.specs.Workspaces.{IsReadWorkspace, PackageModel}
use Rattle.go_emit_core.specs.package_core.PackagePartParts.{PartModel}
use Rattle.go_emit_core.specs.package_core.PackagePartSlots.{somes}
use Rattle.go_snap_core.specs.whole_workspace.Inputs.{AreParts}
use Rattle.go_code_core.specs.fragments.Inside.{in_fragment}
use Rattle.go_code_core.specs.Code.{frame_in}
use Rattle.go_meaning_laws.specs.source_meaning.Meaning.{SourceOf}
use Rattle.go_meaning_laws.specs.fitting_sources.Laws.{FunctionFits, IsReached}
use Rattle.go_machine_core.specs.link.Functions.{all_functions, number_of}
use Rattle.go_machine_core.specs.link.Linked.{IsRunnable, RunnableOf, program_of}
use Rattle.go_session_core.specs.launches.Located.{place_declared}
use Rattle.go_emit_core.specs.Emitted.{objects_of}
use Rattle.go_meaning_laws.specs.object_sources.Laws.{ObjectsAreCodeOfSources}
use Rattle.go_meaning_laws.specs.object_sources.Sources.{sources_of}
use Rattle.go_workspace_laws.specs.ConstantLaws.{code_names_of}
use Rattle.go_program_laws.specs.types.Fits.{FunctionsFit}
use Rattle.go_program_laws.specs.types.Functions.{source_with}
use Rattle.go_program_laws.specs.calls.Starts.{StartsTakeNothing}
use Rattle.go_program_laws.specs.faultless.Called.{CallsAreServed}
use Rattle.go_program_laws.specs.faultless.Parts.{PartsAreAmong}
use Rattle.go_program_laws.specs.faultless.Runs.{ReachedProgramsRun, callees_of}
use Rattle.go_program_laws.specs.faultless.Served.{FunctionsAreServed}
use Rattle.go_program_laws.specs.references.Kept.{IsRun, MethodsAreKept, ProgramsRun, ReferencesAreKept}
use Rattle.go_program_laws.specs.references.Reached.{IsInProgram, ReachedAreInProgram}

module _ (reach : ReachedAreInProgram) (kept : ReferencesAreKept) (methods : MethodsAreKept) (served : FunctionsAreServed) (calls : CallsAreServed) (fit : FunctionsFit) (among : PartsAreAmong) (ws : List PackageModel) (parts : List (Option PartModel)) (as_read : IsReadWorkspace ws) (made : AreParts ws parts)
    (main : List ℕ) (r : RunnableOf) (runnable : IsRunnable (program_of place_declared (objects_of (somes parts)) main) r) where
  abbrev sources : List SourceOf
  sources = sources_of place_declared (somes parts)

  -- a source that is reached fits
  reached_fits : (number : ℕ) (s : SourceOf) → IsReached sources r.starts number → slice_get sources number ≡ Some s → in_fragment (frame_in s.looks s.tree) s.tree ≡ true → FunctionFits sources s
  reached_fits number s reached is inside =
      let x = reach ws parts as_read made main r runnable number reached in
      let a = x.at in
      let p = a.part in
      let n = x.decl.file in
      let right = among ws parts as_read made p a.there in
      let callees = callees_of place_declared (somes parts) a.file a.func in
      let some : Some s ≡ Some (source_with (code_names_of p.input p.content n a.file a.func) callees a.func) = sym is ∙ a.is in
      let same : s ≡ source_with (code_names_of p.input p.content n a.file a.func) callees a.func = cc some in
      let inside_alone = subst (λ (y : SourceOf). in_fragment (frame_in y.looks y.tree) y.tree ≡ true) same inside in
      let run : IsRun (somes parts) main r p n a.tree a.file a.func a.all = record {
        number = number;
        reached = reached;
        part = a.there;
        in_program = subst (λ y. IsInProgram (somes parts) main r y) (sym a.of_path) x.in_program;
        function = a.checked;
        there = a.is;
        inside = inside_alone;
      } in
      let functions_are = kept ws parts as_read made main r runnable p n a.tree a.file a.func a.all run in
      let methods_are = methods ws parts as_read made main r runnable p n a.tree a.file a.func a.all run in
      let leads = calls ws parts as_read.well made p a.there n a.tree a.file a.func a.all a.checked sources (number_of place_declared (all_functions (objects_of (somes parts)))) functions_are methods_are in
      subst (λ y. FunctionFits sources y) (sym same)
      (fit sources callees p.input p.content n a.tree a.file a.func a.all a.checked right.shows (served ws parts as_read made sources callees p a.there n a.tree a.file a.func a.all a.checked leads) inside_alone)

pub programs_run : ReachedAreInProgram → ReferencesAreKept → MethodsAreKept → FunctionsAreServed → CallsAreServed → FunctionsFit → PartsAreAmong → StartsTakeNothing → ObjectsAreCodeOfSources → ReachedProgramsRun → ProgramsRun
programs_run reach kept methods served calls fit among starts code run ws parts faults as_read snapshot main r runnable =
    let ps = somes parts in
    let right = λ (p : PartModel) (h : Contains ps p). among ws parts as_read snapshot.made p h in
    run (program_of place_declared (objects_of ps) main) (sources_of place_declared ps) r (record {
      runnable = runnable;
      functions = code place_declared ps;
      fit = reached_fits reach kept methods served calls fit among ws parts as_read snapshot.made main r runnable;
      starting = starts place_declared ps main r (λ p h. record { input = (right p h).input; part = (right p h).part; files = (right p h).files }) runnable.begun;
    })
