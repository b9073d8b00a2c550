use Rattle.go_program_laws.proofs.FaultlessReaching.{reached_run}
use Rattle.go_program_laws.proofs.faultless.laws.reached_programs_run.Goals as goal

pub returns : goal.returns
returns c = reached_run c.fitting_means_something.ensures c.programs_run_as_meant.ensures
