use Rattle.go_machine_core.proofs.RunsOnes.{answers_are_one}
use Rattle.go_machine_core.proofs.runs.laws.answers_are_one.Goals as goal

pub returns : goal.returns
returns c = answers_are_one
