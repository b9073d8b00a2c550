use Rattle.go_meaning_laws.proofs.ProgramMeaningRunning.{programs_run_as_meant}
use Rattle.go_meaning_laws.proofs.program_meaning.laws.programs_run_as_meant.Goals as goal

pub returns : goal.returns
returns c = programs_run_as_meant c.meant_code_means_the_source.ensures c.answers_are_one.ensures
