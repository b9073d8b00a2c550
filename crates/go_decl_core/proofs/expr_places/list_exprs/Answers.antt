use Rattle.go_tree_nodes.specs.Shapes.{shape}
use Rattle.go_decl_core.specs.Outer.{expr_outers}
use Rattle.go_decl_core.proofs.Adding.{adds_step, adds_whole}
use Rattle.go_decl_core.proofs.ListLemmas.{next_expr_outers, exprs_list}
use Rattle.go_decl_core.proofs.expr_places.list_exprs.Goals as goal

pub loop-next-preserved : goal.loop-next-preserved
loop-next-preserved c = adds_step next_expr_outers _ (expr_outers (shape c.args.exprs.now.first)) c.deref-next-items.result.now c.loop-next.next-index c.next-item.result c.loop-next-test.true c.next-item.is c.loop-next.invariant c.list_expr-in-loop-next.ensures

pub returns : goal.returns
returns c = adds_whole next_expr_outers _ (expr_outers (shape c.args.exprs.now.first)) c.deref-next-items.result.now c.args.exprs.now.more.items c.loop-next.next-index _ c.deref-next-items.ensures.value c.loop-next-test.false (exprs_list c.args.exprs.now.first c.args.exprs.now.more.items) c.loop-next.invariant
