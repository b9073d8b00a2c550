use Rattle.go_report_core.proofs.AnswerShowing.{names_show_their_faces}
use Rattle.go_report_core.proofs.answer.laws.exported_names_show_their_faces.Goals as goal

pub returns : goal.returns
returns c = names_show_their_faces
