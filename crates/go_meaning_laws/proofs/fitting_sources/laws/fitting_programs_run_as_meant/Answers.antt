use Rattle.go_meaning_laws.proofs.FittingSourcesReaching.{fitting_run}
use Rattle.go_meaning_laws.proofs.fitting_sources.laws.fitting_programs_run_as_meant.Goals as goal

pub returns : goal.returns
returns c = fitting_run c.fitting_means_something.ensures c.programs_run_as_meant.ensures
