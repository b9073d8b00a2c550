use Rattle.go_tree_nodes.specs.Shapes.{shape}
use Rattle.go_tree_nodes.specs.WrittenTypes.{expr_types}
use Rattle.go_inline_core.proofs.ListLemmas.{adds_step, adds_whole}
use Rattle.go_inline_core.proofs.WalkLemmas.{next_types, exprs_types_list}
use Rattle.go_inline_core.proofs.listing.list_exprs.Goals as goal

pub loop-next-preserved : goal.loop-next-preserved
loop-next-preserved c = adds_step next_types (expr_types (shape c.args.exprs.now.first)) c.deref-next-items.result.now c.loop-next.next-index c.next-item.result _ _ _ c.loop-next-test.true c.next-item.is c.loop-next.invariant c.list_expr-in-loop-next.ensures

pub returns : goal.returns
returns c = adds_whole next_types (expr_types (shape c.args.exprs.now.first)) c.deref-next-items.result.now c.args.exprs.now.more.items c.loop-next.next-index _ _ _ c.deref-next-items.ensures.value c.loop-next-test.false (exprs_types_list c.args.exprs.now.first c.args.exprs.now.more.items) c.loop-next.invariant
