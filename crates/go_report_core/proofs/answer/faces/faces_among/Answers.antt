use Rattle.go_report_core.proofs.AnswerStepping.{faces_step}
use Rattle.go_report_core.proofs.answer.faces.faces_among.Goals as goal

pub loop-at-preserved : goal.loop-at-preserved
loop-at-preserved c = faces_step c.args.sorted.now c.args.written.now c.args.known.now c.loop-at.at _ _ c.in_ok-add_face_at.ensures c.loop-at.invariant
