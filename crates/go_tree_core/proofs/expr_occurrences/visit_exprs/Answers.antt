use Rattle.go_tree_nodes.specs.Shapes.{shape}
use Rattle.go_tree_core.specs.Occurrences.{expr_occs}
use Rattle.go_tree_core.proofs.OccLemmas.{next_occs, exprs_occs_list}
use Rattle.go_tree_core.proofs.Visits.{sees_step, sees_whole}
use Rattle.go_tree_core.proofs.expr_occurrences.visit_exprs.Goals as goal

pub loop-next-preserved : goal.loop-next-preserved
loop-next-preserved g c = sees_step g.V.Visitor.Sees (next_occs c.args.context) g.met.V.Visitor.sees_more (expr_occs c.args.context (shape c.args.exprs.now.first)) c.deref-next-items.result.now c.loop-next.next-index c.next-item.result _ _ _ c.loop-next-test.true c.next-item.is c.loop-next.invariant c.visit_expr-in-loop-next.ensures

pub returns : goal.returns
returns g c = sees_whole g.V.Visitor.Sees (next_occs c.args.context) (expr_occs c.args.context (shape c.args.exprs.now.first)) c.deref-next-items.result.now c.args.exprs.now.more.items c.loop-next.next-index _ _ _ c.deref-next-items.ensures.value c.loop-next-test.false (exprs_occs_list c.args.context c.args.exprs.now.first c.args.exprs.now.more.items) c.loop-next.invariant
