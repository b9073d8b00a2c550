use Rattle.go_cursor_core.proofs.Declaring.{name_turn, name_end}
use Rattle.go_cursor_core.proofs.search.declare_idents.Goals as goal

pub loop-next-preserved : goal.loop-next-preserved
loop-next-preserved c = name_turn _ _ _ c.args.names.now.first c.deref-next-items.result.now c.loop-next.next-index c.next-item.result c.loop-next-test.true c.next-item.is c.loop-next.invariant c.declare-in-loop-next.ensures

pub returns : goal.returns
returns c = name_end _ _ c.args.names.now.first c.deref-next-items.result.now c.args.names.now.more.items c.loop-next.next-index c.deref-next-items.ensures.value c.loop-next-test.false c.loop-next.invariant
