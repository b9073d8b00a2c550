use Rattle.std.proofs.Common.{refl, ap}
use Rattle.go_tree_nodes.specs.Shapes.{shape_stmt, shape_else}
use Rattle.go_local_core.specs.Outline.{stmt_steps, else_steps}
use Rattle.go_local_core.proofs.WalksVisits.{same, turn, whole}
use Rattle.go_local_core.proofs.WalksStepLemmas.{listed, one_line, block_has, loop_has, else_has, branch_has}
use Rattle.go_local_core.proofs.walks.walk.+visit.Goals as goal

pub visit_branch-returns : goal.visit_branch-returns
visit_branch-returns g t c =
    let more = g.met.V.Visitor.leads_more in
    let inner = g.met.V.Visitor.leads_inner in
    same g.V.Visitor.Leads _ _ _ _ (branch_has c.args.branch.now)
    (inner _ _ _ _ _ _ _ c.enter.ensures
    (more _ _ _ _ _ c.visit_if_head.ensures (more _ _ _ _ _ (inner _ _ _ _ _ _ _ c.enter-2.ensures c.visit_lines.ensures c.leave.ensures) c.visit_otherwise.ensures))
    c.leave-2.ensures)

pub visit_lines-loop-line-preserved : goal.visit_lines-loop-line-preserved
visit_lines-loop-line-preserved g t c = turn g.V.Visitor.Leads listed one_line refl (λ x xs. refl) g.met.V.Visitor.leads_more c.args.visitor.now c.deref-line-items.result.now c.loop-line.line-index c.line-item.result _ _ c.loop-line-test.true c.line-item.is c.loop-line.invariant c.visit_stmt.ensures

pub visit_lines-returns : goal.visit_lines-returns
visit_lines-returns g t c = whole g.V.Visitor.Leads listed one_line refl (λ x xs. refl) g.met.V.Visitor.leads_none c.args.visitor.now c.deref-line-items.result.now c.args.lines.now.items c.loop-line.line-index _ c.deref-line-items.ensures.value c.loop-line-test.false c.loop-line.invariant

pub visit_otherwise-returns-in-Nothing : goal.visit_otherwise-returns-in-Nothing
visit_otherwise-returns-in-Nothing g t c = same g.V.Visitor.Leads _ _ _ _ (ap (λ o. else_steps (shape_else o)) c.in-Nothing.is) (g.met.V.Visitor.leads_none _)

pub visit_otherwise-returns-in-Block : goal.visit_otherwise-returns-in-Block
visit_otherwise-returns-in-Block g t c = same g.V.Visitor.Leads _ _ _ _ (else_has c.args.otherwise.now _ _ _ _ c.in-Block.is) (g.met.V.Visitor.leads_inner _ _ _ _ _ _ _ c.enter.ensures c.visit_lines.ensures c.leave.ensures)

pub visit_stmt-returns-in-Empty : goal.visit_stmt-returns-in-Empty
visit_stmt-returns-in-Empty g t c = same g.V.Visitor.Leads _ _ _ _ (ap (λ o. stmt_steps (shape_stmt o)) c.in-Empty.is) (g.met.V.Visitor.leads_none _)

pub visit_stmt-returns-in-Break : goal.visit_stmt-returns-in-Break
visit_stmt-returns-in-Break g t c = same g.V.Visitor.Leads _ _ _ _ (ap (λ o. stmt_steps (shape_stmt o)) c.in-Break.is) (g.met.V.Visitor.leads_none _)

pub visit_stmt-returns-in-Continue : goal.visit_stmt-returns-in-Continue
visit_stmt-returns-in-Continue g t c = same g.V.Visitor.Leads _ _ _ _ (ap (λ o. stmt_steps (shape_stmt o)) c.in-Continue.is) (g.met.V.Visitor.leads_none _)

pub visit_stmt-returns-in-Block : goal.visit_stmt-returns-in-Block
visit_stmt-returns-in-Block g t c = same g.V.Visitor.Leads _ _ _ _ (block_has c.args.stmt.now _ _ _ c.in-Block.is) (g.met.V.Visitor.leads_inner _ _ _ _ _ _ _ c.enter.ensures c.visit_lines.ensures c.leave.ensures)

pub visit_loop-returns : goal.visit_loop-returns
visit_loop-returns g t c =
    let inner = g.met.V.Visitor.leads_inner in
    same g.V.Visitor.Leads _ _ _ _ (loop_has c.args.turns.now)
    (inner _ _ _ _ _ _ _ c.enter.ensures (g.met.V.Visitor.leads_more _ _ _ _ _ c.visit_for_head.ensures (inner _ _ _ _ _ _ _ c.enter-2.ensures c.visit_lines.ensures c.leave.ensures)) c.leave-2.ensures)
