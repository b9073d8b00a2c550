use Rattle.go_summary_core.proofs.Viewed.{faces_more, of_one_more}
use Rattle.go_summary_core.proofs.view.faces_of.Goals as goal

pub loop-summary-preserved : goal.loop-summary-preserved
loop-summary-preserved c =
    let ss = c.args.summaries.now in
    let s = c.summary-item.result in (
      faces_more ss c.loop-summary.summary-index s c.loop-summary.faces _ c.loop-summary-test.true c.summary-item.is c.requires c.in_ok-add_faces.ensures.own c.loop-summary.invariant.1 c.in_ok-add_faces.ensures.faces c.loop-summary.invariant.0,
      of_one_more ss c.loop-summary.summary-index s c.loop-summary-test.true c.summary-item.is c.in_ok-add_faces.ensures.own c.loop-summary.invariant.1,
    )
