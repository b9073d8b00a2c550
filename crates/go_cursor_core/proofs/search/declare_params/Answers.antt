use Rattle.go_cursor_core.proofs.Declaring.{entry_turn, entry_end}
use Rattle.go_cursor_core.proofs.search.declare_params.Goals as goal

pub loop-param-preserved : goal.loop-param-preserved
loop-param-preserved c = entry_turn _ _ _ c.deref-param-items.result.now c.loop-param.param-index c.param-item.result c.loop-param-test.true c.param-item.is c.loop-param.invariant c.declare_names.ensures

pub returns : goal.returns
returns c = entry_end _ _ c.deref-param-items.result.now c.args.params.now.items c.loop-param.param-index c.deref-param-items.ensures.value c.loop-param-test.false c.loop-param.invariant
