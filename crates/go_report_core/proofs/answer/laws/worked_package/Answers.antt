use Rattle.go_report_core.proofs.AnswerWorked.{sample_is_right}
use Rattle.go_report_core.proofs.answer.laws.worked_package.Goals as goal

pub returns : goal.returns
returns c = sample_is_right
