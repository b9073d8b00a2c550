use Rattle.std.proofs.Common.{ap, ◌∙◌}
use Rattle.go_declared_core.specs.typexpr_core.EntryShowing.{with_shown}
use Rattle.go_summary_core.proofs.Viewed.{exports_more}
use Rattle.go_summary_core.proofs.view.shown_of.Goals as goal

pub loop-summary-preserved : goal.loop-summary-preserved
loop-summary-preserved c =
    let ss = c.args.summaries.now in
    let s = c.summary-item.result in
    exports_more ss c.loop-summary.summary-index s c.loop-summary.shown _ c.loop-summary-test.true c.summary-item.is c.requires
    (c.in_ok-add.ensures.ok ∙ ap (with_shown c.loop-summary.shown) (c.in_ok-share.ensures ∙ c.exports.ensures)) c.loop-summary.invariant
