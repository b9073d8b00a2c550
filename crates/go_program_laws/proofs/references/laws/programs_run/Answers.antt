use Rattle.go_program_laws.proofs.ReferencesRunning.{programs_run as all_run}
use Rattle.go_program_laws.proofs.references.laws.programs_run.Goals as goal

pub returns : goal.returns
returns c =
    all_run c.reached_are_in_program.ensures c.references_are_kept.ensures c.methods_are_kept.ensures c.functions_are_served.ensures c.calls_are_served.ensures c.functions_fit.ensures c.parts_are_among.ensures c.starts_take_nothing.ensures
    c.objects_are_code_of_sources.ensures c.reached_programs_run.ensures
