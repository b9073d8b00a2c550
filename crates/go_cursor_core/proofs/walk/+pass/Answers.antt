use Rattle.std.proofs.Common.{refl}
use Rattle.go_expr_core.specs.local_core.WalksVisits.{whole}
use Rattle.go_expr_core.specs.local_core.WalksStepLemmas.{listed, one_line, block_has, loop_has, else_has, branch_has}
use Rattle.go_cursor_core.specs.mirrors.Searching.{Leads}
use Rattle.go_cursor_core.proofs.States.{same, leads_none, leads_more, leads_inner}
use Rattle.go_cursor_core.proofs.walk.+pass.Goals as goal

pub pass_branch-returns : goal.pass_branch-returns
pass_branch-returns t c =
    same _ _ _ _ (branch_has c.args.branch.now)
    (leads_inner _ _ _ _ _ _ _ _ c.enter-outer.ensures
    (leads_more _ _ _ _ _ c.pass_if_head.ensures (leads_more _ _ _ _ _ (leads_inner _ _ _ _ _ _ _ _ c.enter-around.ensures c.pass_lines.ensures c.leave.ensures) c.pass_otherwise.ensures))
    c.leave-2.ensures)

pub pass_lines-returns : goal.pass_lines-returns
pass_lines-returns t c = whole Leads listed one_line refl (λ x xs. refl) leads_none c.args.search.now c.deref-line-items.result.now c.args.lines.now.items c.loop-line.line-index _ c.deref-line-items.ensures.value c.loop-line-test.false c.loop-line.invariant

pub pass_otherwise-returns-in-Block : goal.pass_otherwise-returns-in-Block
pass_otherwise-returns-in-Block t c = same _ _ _ _ (else_has c.args.otherwise.now _ _ _ _ c.in-Block.is) (leads_inner _ _ _ _ _ _ _ _ c.enter-outer.ensures c.pass_lines.ensures c.leave.ensures)

pub pass_stmt-returns-in-Block : goal.pass_stmt-returns-in-Block
pass_stmt-returns-in-Block t c = same _ _ _ _ (block_has c.args.stmt.now _ _ _ c.in-Block.is) (leads_inner _ _ _ _ _ _ _ _ c.enter-outer.ensures c.pass_lines.ensures c.leave.ensures)

pub pass_loop-returns : goal.pass_loop-returns
pass_loop-returns t c =
    same _ _ _ _ (loop_has c.args.turns.now)
    (leads_inner _ _ _ _ _ _ _ _ c.enter-outer.ensures (leads_more _ _ _ _ _ c.pass_for_head.ensures (leads_inner _ _ _ _ _ _ _ _ c.enter-around.ensures c.pass_lines.ensures c.leave.ensures)) c.leave-2.ensures)
