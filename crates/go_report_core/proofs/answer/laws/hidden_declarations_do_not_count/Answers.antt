use Rattle.go_report_core.proofs.AnswerShowing.{hidden_do_not_count, shown_alike}
use Rattle.go_report_core.proofs.answer.laws.hidden_declarations_do_not_count.Goals as goal

pub returns-clause-faces : goal.returns-clause-faces
returns-clause-faces c = hidden_do_not_count

pub returns-clause-whole : goal.returns-clause-whole
returns-clause-whole c = shown_alike
