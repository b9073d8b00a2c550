use Rattle.go_report_core.proofs.AnswerShowing.{shown_are_exported}
use Rattle.go_report_core.proofs.answer.laws.shown_faces_are_exported.Goals as goal

pub returns : goal.returns
returns c = shown_are_exported
