-- What begins a program takes nothing and gives nothing.
--
-- docs/RULES.md, "Package and file blocks", "Programs". The Go specification, "Package initialization", "Program execution".
use Rattle.std.specs.Prelude.{◌≡◌, ℕ, true, List, [], Option, Some, Contains, slice_get}
use Rattle.go_code_core.specs.declared.fragments.names.Gives.TheVariants as gives
use Rattle.go_code_core.specs.fragments.Inside.{in_fragment}
use Rattle.go_code_core.specs.Code.{frame_in}
use Rattle.go_meaning_laws.specs.source_meaning.Meaning.{SourceOf}
use Rattle.go_meaning_laws.specs.program_meaning.Laws.{RunsAsMeant}
use Rattle.go_meaning_laws.specs.fitting_sources.Fitting.{IsDeclared}
use Rattle.go_machine_core.specs.link.Functions.{PlaceModel}
use Rattle.go_machine_core.specs.link.Linked.{IsBegun, IsRunnable, RunnableOf, program_of}
use Rattle.go_meaning_laws.specs.handle_core.Declarations.{Declaration}
use Rattle.go_emit_core.specs.package_core.PackagePartParts.{PartModel}
use Rattle.go_emit_core.specs.Emitted.{objects_of}
use Rattle.go_meaning_laws.specs.object_sources.Sources.{sources_of}
use Rattle.go_program_laws.specs.checked_sources.Laws.{IsOfGrammar}
use Rattle.go_program_laws.specs.checked_sources.RunLaws.{IsTypedBody}

-- of the objects of parts: `main`, and each `init` that runs
abbrev pub StartsTakeNothing : Type 0
StartsTakeNothing =
    (place : Declaration → Option PlaceModel) (ps : List PartModel) (main : List ℕ) (r : RunnableOf) → ((p : PartModel) → Contains ps p → IsOfGrammar p) → IsBegun (program_of place (objects_of ps) main) r
    → (number : ℕ) → Contains r.starts number → IsDeclared (sources_of place ps) number gives.Nothing []

-- so a program of the objects of parts that can be run comes to what its functions mean, where each function in the run fragment is typed
abbrev pub TypedObjectsRun : Type 0
TypedObjectsRun =
    (place : Declaration → Option PlaceModel) (ps : List PartModel) (main : List ℕ) (r : RunnableOf) → ((p : PartModel) → Contains ps p → IsOfGrammar p) → IsRunnable (program_of place (objects_of ps) main) r
    → ((number : ℕ) (s : SourceOf) → slice_get (sources_of place ps) number ≡ Some s → in_fragment (frame_in s.looks s.tree) s.tree ≡ true → IsTypedBody (sources_of place ps) s)
    → RunsAsMeant (program_of place (objects_of ps) main) (sources_of place ps) r.starts
