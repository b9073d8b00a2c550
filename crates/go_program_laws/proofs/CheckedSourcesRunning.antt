-- Programs of objects run as their sources mean, where these are typed.
use Rattle.go_machine_core.specs.link.Linked.{program_of}
use Rattle.go_meaning_laws.specs.fitting_sources.RunLaws.{FittingProgramsRunAsMeant}
use Rattle.go_emit_core.specs.Emitted.{objects_of}
use Rattle.go_meaning_laws.specs.object_sources.Laws.{ObjectsAreCodeOfSources}
use Rattle.go_meaning_laws.specs.object_sources.Sources.{sources_of}
use Rattle.go_program_laws.specs.checked_sources.Laws.{SourcesEndWell}
use Rattle.go_program_laws.specs.checked_sources.RunLaws.{ObjectsRunAsTyped}

pub objects_run : FittingProgramsRunAsMeant → ObjectsAreCodeOfSources → SourcesEndWell → ObjectsRunAsTyped
objects_run run code ends place ps main r right runnable typed starting =
    run (program_of place (objects_of ps) main) (sources_of place ps) r (record {
      runnable = runnable;
      functions = code place ps;
      fit = λ number s is inside.
          let t = typed number s is inside in
          let e = ends place ps right number s is in
          record { typing = t.typing; params = t.params; body = t.body; no_break = e.no_break; no_continue = e.no_continue; ends = e.ends };
      starting = starting;
    })
