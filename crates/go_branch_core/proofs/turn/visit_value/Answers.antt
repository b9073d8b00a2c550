use Rattle.std.proofs.Common.{refl, ap}
use Rattle.go_tree_nodes.specs.Shapes.{shape_value_specs}
use Rattle.go_local_core.specs.Outline.{specs_steps}
use Rattle.go_local_core.proofs.WalksVisits.{same, turn, whole}
use Rattle.go_local_core.proofs.WalksStepLemmas.{group, one_spec}
use Rattle.go_branch_core.proofs.turn.visit_value.Goals as goal

pub loop-line-preserved : goal.loop-line-preserved
loop-line-preserved g c = turn g.V.Visitor.Leads (group c.args.value.now.kind) (one_spec c.args.value.now.kind) refl (λ x xs. refl) g.met.V.Visitor.leads_more c.args.visitor.now c.deref-line-items.result.now c.loop-line.line-index c.line-item.result _ _ c.loop-line-test.true c.line-item.is c.loop-line.invariant c.visit_spec-in-loop-line.ensures

pub returns-after-loop-line : goal.returns-after-loop-line
returns-after-loop-line g c =
    same g.V.Visitor.Leads _ _ _ _ (ap (λ o. specs_steps c.args.value.now.kind (shape_value_specs o)) c.in-Group.is)
    (whole g.V.Visitor.Leads (group c.args.value.now.kind) (one_spec c.args.value.now.kind) refl (λ x xs. refl) g.met.V.Visitor.leads_none c.args.visitor.now c.deref-line-items.result.now c.in-Group.lines.items c.loop-line.line-index _ c.deref-line-items.ensures.value c.loop-line-test.false c.loop-line.invariant)
