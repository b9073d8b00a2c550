use Rattle.std.proofs.Common.{[], refl, ap}
use Rattle.go_tree_nodes.specs.declared.stmts.Loop.{out-Loop}
use Rattle.go_tree_nodes.specs.Shapes.{shape_value, shape_for, shape_stmt, shape_branch, lines_of}
use Rattle.go_tree_core.specs.Occurrences.{value_occs, for_occs, stmt_occs, branch_occs, lines_occs}
use Rattle.go_tree_core.proofs.OccLemmas.{line_occs, lines_occs_list, block_has, loop_has, else_has, branch_has}
use Rattle.go_tree_core.proofs.Visits.{sees_same, sees_at, sees_both, sees_step, sees_whole}
use Rattle.go_tree_core.proofs.stmt_occurrences.+visit.Goals as goal

pub visit_lines-loop-line-preserved : goal.visit_lines-loop-line-preserved
visit_lines-loop-line-preserved g t c = sees_step g.V.Visitor.Sees line_occs g.met.V.Visitor.sees_more [] c.deref-line-items.result.now c.loop-line.line-index c.line-item.result _ _ _ c.loop-line-test.true c.line-item.is c.loop-line.invariant c.visit_stmt.ensures

pub visit_lines-returns : goal.visit_lines-returns
visit_lines-returns g t c = sees_whole g.V.Visitor.Sees line_occs [] c.deref-line-items.result.now c.args.lines.now.items c.loop-line.line-index _ _ _ c.deref-line-items.ensures.value c.loop-line-test.false (lines_occs_list c.args.lines.now.items) c.loop-line.invariant

pub visit_stmt-returns-in-Block : goal.visit_stmt-returns-in-Block
visit_stmt-returns-in-Block g t c = sees_same g.V.Visitor.Sees _ _ _ _ (block_has c.args.stmt.now _ _ _ c.in-Block.is) c.visit_lines.ensures

pub visit_stmt-returns-in-For : goal.visit_stmt-returns-in-For
visit_stmt-returns-in-For g t c =
    let seen = g.V.Visitor.Sees in
    sees_both seen g.met.V.Visitor.sees_more _ _ _ _ _ _ (loop_has c.args.stmt.now c.in-For.turns c.in-For.is)
    (sees_at seen (λ l. for_occs (shape_for (out-Loop l).head)) _ _ _ _ c.deref-in-For.ensures c.visit_for_head.ensures)
    (sees_at seen (λ l. lines_occs (lines_of (out-Loop l).body.items)) _ _ _ _ c.deref-in-For-2.ensures c.visit_lines-in-For.ensures)

pub visit_otherwise-returns-in-Block : goal.visit_otherwise-returns-in-Block
visit_otherwise-returns-in-Block g t c = sees_same g.V.Visitor.Sees _ _ _ _ (else_has c.args.otherwise.now _ _ _ _ c.in-Block.is) c.visit_lines.ensures

pub visit_branch-returns : goal.visit_branch-returns
visit_branch-returns g t c =
    let more = g.met.V.Visitor.sees_more in
    sees_both g.V.Visitor.Sees more _ _ _ _ _ _ (branch_has c.args.branch.now) c.visit_if_head.ensures
    (sees_both g.V.Visitor.Sees more _ _ _ _ _ _ refl c.visit_lines.ensures c.visit_otherwise.ensures)

pub visit_stmt-returns-in-Declare : goal.visit_stmt-returns-in-Declare
visit_stmt-returns-in-Declare g t c = sees_same g.V.Visitor.Sees _ _ _ _ (ap (λ s. stmt_occs (shape_stmt s)) c.in-Declare.is) (sees_at g.V.Visitor.Sees (λ v. value_occs (shape_value v)) _ _ _ _ c.deref.ensures c.visit_value.ensures)

pub visit_stmt-returns-in-Simple : goal.visit_stmt-returns-in-Simple
visit_stmt-returns-in-Simple g t c = sees_same g.V.Visitor.Sees _ _ _ _ (ap (λ s. stmt_occs (shape_stmt s)) c.in-Simple.is) c.visit_simple.ensures

pub visit_stmt-returns-in-Return : goal.visit_stmt-returns-in-Return
visit_stmt-returns-in-Return g t c = sees_same g.V.Visitor.Sees _ _ _ _ (ap (λ s. stmt_occs (shape_stmt s)) c.in-Return.is) c.visit_some_exprs.ensures

pub visit_stmt-returns-in-If : goal.visit_stmt-returns-in-If
visit_stmt-returns-in-If g t c = sees_same g.V.Visitor.Sees _ _ _ _ (ap (λ s. stmt_occs (shape_stmt s)) c.in-If.is) (sees_at g.V.Visitor.Sees (λ b. branch_occs (shape_branch b)) _ _ _ _ c.deref-in-If.ensures c.visit_branch.ensures)

pub visit_stmt-returns-in-Empty : goal.visit_stmt-returns-in-Empty
visit_stmt-returns-in-Empty g t c = sees_same g.V.Visitor.Sees _ _ _ _ (ap (λ s. stmt_occs (shape_stmt s)) c.in-Empty.is) (g.met.V.Visitor.sees_none _)

pub visit_stmt-returns-in-Break : goal.visit_stmt-returns-in-Break
visit_stmt-returns-in-Break g t c = sees_same g.V.Visitor.Sees _ _ _ _ (ap (λ s. stmt_occs (shape_stmt s)) c.in-Break.is) (g.met.V.Visitor.sees_none _)

pub visit_stmt-returns-in-Continue : goal.visit_stmt-returns-in-Continue
visit_stmt-returns-in-Continue g t c = sees_same g.V.Visitor.Sees _ _ _ _ (ap (λ s. stmt_occs (shape_stmt s)) c.in-Continue.is) (g.met.V.Visitor.sees_none _)
