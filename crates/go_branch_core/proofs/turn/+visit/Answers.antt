use Rattle.std.proofs.Common.{ap}
use Rattle.go_tree_nodes.specs.Shapes.{shape_else}
use Rattle.go_local_core.specs.Outline.{else_steps}
use Rattle.go_local_core.proofs.WalksVisits.{same}
use Rattle.go_local_core.proofs.WalksStepLemmas.{else_has, branch_has}
use Rattle.go_branch_core.proofs.turn.+visit.Goals as goal

pub visit_branch-returns : goal.visit_branch-returns
visit_branch-returns g t c =
    let more = g.met.V.Visitor.leads_more in
    let inner = g.met.V.Visitor.leads_inner in
    same g.V.Visitor.Leads _ _ _ _ (branch_has c.args.branch.now)
    (inner _ _ _ _ _ _ _ c.enter.ensures
    (more _ _ _ _ _ c.visit_if_head.ensures (more _ _ _ _ _ (inner _ _ _ _ _ _ _ c.enter-2.ensures c.visit_lines.ensures c.leave.ensures) c.visit_otherwise.ensures))
    c.leave-2.ensures)

pub visit_otherwise-returns-in-Nothing : goal.visit_otherwise-returns-in-Nothing
visit_otherwise-returns-in-Nothing g t c = same g.V.Visitor.Leads _ _ _ _ (ap (λ o. else_steps (shape_else o)) c.in-Nothing.is) (g.met.V.Visitor.leads_none _)

pub visit_otherwise-returns-in-Block : goal.visit_otherwise-returns-in-Block
visit_otherwise-returns-in-Block g t c = same g.V.Visitor.Leads _ _ _ _ (else_has c.args.otherwise.now _ _ _ _ c.in-Block.is) (g.met.V.Visitor.leads_inner _ _ _ _ _ _ _ c.enter.ensures c.visit_lines.ensures c.leave.ensures)
