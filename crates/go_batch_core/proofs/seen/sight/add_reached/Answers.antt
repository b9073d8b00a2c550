use Rattle.std.proofs.Common.{◌≡◌, Some, slice_get, sym, arith}
use Rattle.go_batch_core.proofs.SeenAdding.{agrees_next, reached_all, reached_more, reached_none}
use Rattle.go_batch_core.proofs.seen.sight.add_reached.Goals as goal

pub loop-number-init : goal.loop-number-init
loop-number-init c = (c.requires.seen, reached_none c.args.told.now.items)

pub add_new-requires-clause-agrees : goal.add_new-requires-clause-agrees
add_new-requires-clause-agrees c =
    let rs = c.args.reached.now in
    let k = c.loop-number.number in
    let s = c.in-Some.summary.now in
    let at : slice_get rs k ≡ Some s = sym c.in-Some.ensures in
    agrees_next c.args.told.now.items rs c.loop-number.told.items k s c.requires.apart c.requires.agrees at c.loop-number.invariant.1

pub loop-number-preserved : goal.loop-number-preserved
loop-number-preserved c =
    let rs = c.args.reached.now in
    let k = c.loop-number.number in
    let s = c.in-Some.summary.now in
    let at : slice_get rs k ≡ Some s = sym c.in-Some.ensures in
    let added = c.in_ok-add_new-in-Some.ensures in
    (added.seen, reached_more c.args.told.now.items rs c.loop-number.told.items _ k s at c.loop-number.invariant.1 added.all)

pub returns-clause-all : goal.returns-clause-all
returns-clause-all c =
    let rs = c.args.reached.now in
    let k = c.loop-number.number in
    reached_all c.args.told.now.items rs c.loop-number.told.items k (omega (arith, c.len-number-end.ensures.value, c.loop-number-test.false)) c.loop-number.invariant.1
