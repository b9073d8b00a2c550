use Rattle.go_report_core.proofs.UsageSteps.{some_both, used_step}
use Rattle.go_report_core.proofs.usage.used.add_used_places.Goals as goal

pub loop-number-preserved : goal.loop-number-preserved
loop-number-preserved c =
    let b = c.args.blocks.now in
    let file = c.args.file in
    let o = c.index-occs-number.result in
    used_step b file c.args.occs.now c.args.answers.now c.loop-number.number o c.loop-number.places.keys _ _ c.loop-number-test.true c.index-occs-number.is
    (some_both b file o _ _ _ _ c.loop-number.places.keys _ c.in_ok-add_used.ensures c.answer_at-answer.ensures c.answer_at-next.ensures)
    c.loop-number.invariant
