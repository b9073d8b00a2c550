use Rattle.std.proofs.Common.{[]}
use Rattle.go_tree_core.proofs.OccLemmas.{top_occs, tops_occs_list}
use Rattle.go_tree_core.proofs.Visits.{sees_step, sees_whole}
use Rattle.go_tree_core.proofs.file_occurrences.visit_tops.Goals as goal

pub loop-top-preserved : goal.loop-top-preserved
loop-top-preserved g c = sees_step g.V.Visitor.Sees top_occs g.met.V.Visitor.sees_more [] c.deref-top-items.result.now c.loop-top.top-index c.top-item.result _ _ _ c.loop-top-test.true c.top-item.is c.loop-top.invariant c.visit_decl.ensures

pub returns : goal.returns
returns g c = sees_whole g.V.Visitor.Sees top_occs [] c.deref-top-items.result.now c.args.tops.now.items c.loop-top.top-index _ _ _ c.deref-top-items.ensures.value c.loop-top-test.false (tops_occs_list c.args.tops.now.items) c.loop-top.invariant
