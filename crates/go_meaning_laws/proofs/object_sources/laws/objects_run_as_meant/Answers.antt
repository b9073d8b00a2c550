use Rattle.go_emit_core.specs.Emitted.{objects_of}
use Rattle.go_machine_core.specs.link.Linked.{program_of}
use Rattle.go_meaning_laws.specs.object_sources.Sources.{sources_of}
use Rattle.go_meaning_laws.proofs.object_sources.laws.objects_run_as_meant.Goals as goal

pub returns : goal.returns
returns c = λ place ps main r runnable meant. c.programs_run_as_meant.ensures (program_of place (objects_of ps) main) (sources_of place ps) r (record { runnable = runnable; functions = c.objects_are_code_of_sources.ensures place ps; meant = meant })
