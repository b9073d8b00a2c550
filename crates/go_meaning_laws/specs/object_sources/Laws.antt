-- Laws of the sources of objects.
use Rattle.std.specs.Prelude.{◌≡◌, ℕ, List, Option}
use Rattle.go_machine_core.specs.link.Functions.{PlaceModel, functions_of}
use Rattle.go_machine_core.specs.link.Linked.{IsRunnable, RunnableOf, program_of}
use Rattle.go_handle_core.specs.Declarations.{Declaration}
use Rattle.go_emit_core.specs.package_core.PackagePartParts.{PartModel}
use Rattle.go_emit_core.specs.Emitted.{objects_of}
use Rattle.go_meaning_laws.specs.source_meaning.Laws.{HasMeaning}
use Rattle.go_meaning_laws.specs.source_meaning.Whole.{code_of_program}
use Rattle.go_meaning_laws.specs.program_meaning.Laws.{RunsAsMeant}
use Rattle.go_meaning_laws.specs.object_sources.Sources.{sources_of}

-- the functions of the objects of parts are the code of their sources
abbrev pub ObjectsAreCodeOfSources : Type 0
ObjectsAreCodeOfSources = (place : Declaration → Option PlaceModel) (ps : List PartModel) → functions_of place (objects_of ps) ≡ code_of_program (sources_of place ps)

-- what the program of a package comes to, from the objects of parts, is what its functions mean
abbrev pub ObjectsRunAsMeant : Type 0
ObjectsRunAsMeant =
    (place : Declaration → Option PlaceModel) (ps : List PartModel) (main : List ℕ) (r : RunnableOf) → IsRunnable (program_of place (objects_of ps) main) r
    → HasMeaning (sources_of place ps) r.starts → RunsAsMeant (program_of place (objects_of ps) main) (sources_of place ps) r.starts
