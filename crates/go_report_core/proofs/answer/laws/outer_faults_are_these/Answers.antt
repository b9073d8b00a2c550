use Rattle.go_report_core.proofs.AnswerFaulty.{outer_faults_are_these}
use Rattle.go_report_core.proofs.answer.laws.outer_faults_are_these.Goals as goal

pub returns : goal.returns
returns c = outer_faults_are_these
