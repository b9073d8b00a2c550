use Rattle.go_type_core.proofs.OnceEach.{all_step, all_whole, also_start}
use Rattle.go_type_core.proofs.looped.all_uses.Goals as goal

pub loop-number-preserved : goal.loop-number-preserved
loop-number-preserved c = all_step c.args.keys.now c.loop-number.edges.items c.push_uses.new.edges.items c.args.entries.now c.loop-number.number c.index-entries-number.result c.loop-number-test.true c.index-entries-number.is c.loop-number.invariant c.in_ok-push_uses.ensures

pub returns : goal.returns
returns c = all_whole c.args.keys.now c.loop-number.edges.items c.args.entries.now c.loop-number.number c.loop-number-test.false c.loop-number.invariant

pub loop-number-init : goal.loop-number-init
loop-number-init c = also_start c.new-edges.result.items c.new-edges.ensures.items
