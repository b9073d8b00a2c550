use Rattle.go_program_laws.proofs.CheckedSourcesRunning.{objects_run}
use Rattle.go_program_laws.proofs.checked_sources.laws.objects_run_as_typed.Goals as goal

pub returns : goal.returns
returns c = objects_run c.fitting_programs_run_as_meant.ensures c.objects_are_code_of_sources.ensures c.sources_end_well.ensures
