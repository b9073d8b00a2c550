use Rattle.std.proofs.Common.{arith}
use Rattle.go_batch_core.proofs.Ordered.{none_ordered, ordered_more, ordered_all}
use Rattle.go_batch_core.proofs.begin.slots_of.Goals as goal

pub loop-number-init : goal.loop-number-init
loop-number-init c = none_ordered c.args.count c.in_ok-slots.slots.items c.in_ok-slots.ensures

pub loop-number-preserved : goal.loop-number-preserved
loop-number-preserved c = ordered_more c.args.count c.args.order.now c.loop-number.number-index c.loop-number.slots.items (omega arith) c.requires c.loop-number.invariant

pub returns-clause-many : goal.returns-clause-many
returns-clause-many c = (ordered_all c.args.count c.args.order.now c.loop-number.number-index c.loop-number.slots.items (omega arith) c.loop-number.invariant).many

pub returns-clause-ordered : goal.returns-clause-ordered
returns-clause-ordered c = (ordered_all c.args.count c.args.order.now c.loop-number.number-index c.loop-number.slots.items (omega arith) c.loop-number.invariant).ordered

pub returns-clause-others : goal.returns-clause-others
returns-clause-others c = (ordered_all c.args.count c.args.order.now c.loop-number.number-index c.loop-number.slots.items (omega arith) c.loop-number.invariant).others
