-- The packages of a program that can be run.
--
-- docs/RULES.md, "Programs", "Stack code". The Go specification, "Program initialization and execution", "Import declarations".
use Rattle.std.specs.Prelude.{◌≡◌, ◌⊎◌, ℕ, true, List, Option, Some, Contains, slice_get}
use Rattle.go_term_core.specs.decl_core.declared.keys.DeclRef.{DeclRef}
use Rattle.go_digraph_core.specs.cycle.Cycle.{Reaches}
use Rattle.go_meaning_laws.specs.handle_core.Declarations.{Declaration}
use Rattle.go_graph_core.specs.Workspaces.{IsReadWorkspace, IsWorkspace, PackageModel}
use Rattle.go_emit_core.specs.package_core.PackagePartInputs.{path_in}
use Rattle.go_emit_core.specs.package_core.PackagePartParts.{PartModel}
use Rattle.go_emit_core.specs.package_core.PackagePartSlots.{somes}
use Rattle.go_snap_core.specs.whole_workspace.Inputs.{AreParts}
use Rattle.go_object_core.specs.Objects.{ObjectOf}
use Rattle.go_meaning_laws.specs.fitting_sources.Laws.{IsReached}
use Rattle.go_machine_core.specs.link.Packages.{packages_of}
use Rattle.go_machine_core.specs.link.Linked.{IsBegun, IsRunnable, RunnableOf, program_of}
use Rattle.go_machine_core.specs.link.Reaching.{import_edges}
use Rattle.go_session_core.specs.launches.Located.{place_declared}
use Rattle.go_emit_core.specs.Emitted.{are_clean, objects_of}
use Rattle.go_meaning_laws.specs.object_sources.Sources.{sources_of}
use Rattle.go_program_laws.specs.references.Callees.{IsFunctionAt}

-- the package of a path is part of a program: it has an object, and it is the package that is run, or this one reaches it by imports
pub record IsInProgram (ps : List PartModel) (main : List ℕ) (r : RunnableOf) (path : List ℕ) : Type 0 where
  pub begun : IsBegun (program_of place_declared (objects_of ps) main) r
  pub place : ℕ
  pub object : ObjectOf Declaration
  pub there : slice_get (objects_of ps) place ≡ Some object
  pub of_path : object.path ≡ path
  pub reached : Reaches (import_edges (packages_of (objects_of ps))) begun.entry.root place

-- a number is that of a function of such a package
pub record IsFunctionIn (ps : List PartModel) (main : List ℕ) (r : RunnableOf) (number : ℕ) : Type 0 where
  pub path : List ℕ
  pub decl : DeclRef
  pub at : IsFunctionAt ps path decl number
  pub in_program : IsInProgram ps main r path

-- so is each that is reached, where the program of a workspace can be run
abbrev pub ReachedAreInProgram : Type 0
ReachedAreInProgram =
    (ws : List PackageModel) (parts : List (Option PartModel)) → IsReadWorkspace ws → AreParts ws parts → (main : List ℕ) (r : RunnableOf) → IsRunnable (program_of place_declared (objects_of (somes parts)) main) r
    → (number : ℕ) → IsReached (sources_of place_declared (somes parts)) r.starts number → IsFunctionIn (somes parts) main r number

-- a part sees another: it reaches it by imports, or is it
abbrev pub SeesPart : PartModel → PartModel → Type 0
SeesPart p q = (q ≡ p) ⊎ Contains p.input.reached q.content.summary

-- a part is of a program, and nothing is reported of it
pub record IsCleanIn (ps : List PartModel) (main : List ℕ) (r : RunnableOf) (q : PartModel) : Type 0 where
  pub in_program : IsInProgram ps main r (path_in q.input)
  pub clean : are_clean q.content.files ≡ true

-- so is each that one sees which is of the program
abbrev pub SeenAreInProgram : Type 0
SeenAreInProgram =
    (ws : List PackageModel) (parts : List (Option PartModel)) → IsWorkspace ws → AreParts ws parts → (main : List ℕ) (r : RunnableOf) → IsRunnable (program_of place_declared (objects_of (somes parts)) main) r
    → (p : PartModel) → Contains (somes parts) p → IsInProgram (somes parts) main r (path_in p.input) → (q : PartModel) → Contains (somes parts) q → SeesPart p q → IsCleanIn (somes parts) main r q
