use Rattle.std.proofs.Common.{sym, subst}
use Rattle.go_table_core.specs.Tables.{AreOthers}
use Rattle.go_summary_core.specs.Summaries.{path_of}
use Rattle.go_summary_core.proofs.Viewed.{before, of_one_more, types_apart, types_more}
use Rattle.go_summary_core.proofs.view.types_of.Goals as goal

pub add_types-requires : goal.add_types-requires
add_types-requires c =
    let s = c.summary-item.result in
    subst (AreOthers (path_of s)) (sym c.loop-summary.invariant.0)
    (types_apart _ (path_of s) c.loop-summary.invariant.1 (before c.args.summaries.now c.loop-summary.summary-index s c.requires c.loop-summary-test.true c.summary-item.is))

pub loop-summary-preserved : goal.loop-summary-preserved
loop-summary-preserved c =
    let ss = c.args.summaries.now in
    let s = c.summary-item.result in (
      types_more ss c.loop-summary.summary-index s c.loop-summary.types _ c.loop-summary-test.true c.summary-item.is c.in_ok-add_types.ensures.types c.loop-summary.invariant.0,
      of_one_more ss c.loop-summary.summary-index s c.loop-summary-test.true c.summary-item.is c.in_ok-add_types.ensures.own c.loop-summary.invariant.1,
    )
