use Rattle.std.proofs.Common.{◌≤◌, length, arith}
use Rattle.go_parallel_core.proofs.Seeing.{told_at, told_with, with_all, with_more, with_none}
use Rattle.go_parallel_core.proofs.seers.told_all.Goals as goal

pub loop-part-init : goal.loop-part-init
loop-part-init c = with_none c.args.sight c.args.parts.now

pub told_of-requires-clause-told : goal.told_of-requires-clause-told
told_of-requires-clause-told c = told_at c.args.batch.now.parts c.args.parts.now c.loop-part.part-index c.part-item.result c.loop-part-test.true c.part-item.is c.requires.told

pub told_of-requires-clause-seen : goal.told_of-requires-clause-seen
told_of-requires-clause-seen c = told_with c.args.batch.now.parts c.args.sight c.loop-part.seen c.args.parts.now c.loop-part.part-index c.requires.seen c.requires.told c.loop-part.invariant

pub loop-part-preserved : goal.loop-part-preserved
loop-part-preserved c =
    with_more c.args.sight c.loop-part.seen _ c.args.parts.now c.loop-part.part-index c.part-item.result c.loop-part-test.true c.part-item.is c.loop-part.invariant c.in_ok-seen.ensures

pub returns : goal.returns
returns c = with_all c.args.sight c.loop-part.seen c.args.parts.now c.loop-part.part-index (omega (arith, c.loop-part-test.false)) c.loop-part.invariant
