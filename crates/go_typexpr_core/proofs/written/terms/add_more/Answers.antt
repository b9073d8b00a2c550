use Rattle.std.proofs.Common.{sym}
use Rattle.std.proofs.lemmas.List.{append-nil}
use Rattle.go_typexpr_core.proofs.WrittenCollected.{more_step, more_whole}
use Rattle.go_typexpr_core.proofs.written.terms.add_more.Goals as goal

pub loop-init : goal.loop-init
loop-init c = sym (append-nil c.args.lines.now.items)

pub loop-preserved : goal.loop-preserved
loop-preserved c = more_step c.args.number c.deref-items.result.now c.loop.index c.loop-item.result c.args.lines.now.items c.loop.lines.items _ c.loop-test.true c.loop-item.is c.loop.invariant c.in_ok-add.ensures

pub returns : goal.returns
returns c = more_whole c.args.number c.deref-items.result.now c.args.more.now.items c.loop.index c.args.lines.now.items c.loop.lines.items c.deref-items.ensures.value c.loop-test.false c.loop.invariant
