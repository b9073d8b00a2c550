use Rattle.std.proofs.Common.{ap, sym, ◌∙◌}
use Rattle.go_tree_nodes.specs.declared.stmts.«Branch» as declared_branch
use Rattle.go_tree_nodes.specs.declared.stmts.Loop.{out-Loop}
use Rattle.go_tree_nodes.specs.Trees.{Simple, Return, Block, If, For, Branch, ElseBlock, NoLines, Line}
use Rattle.go_tree_nodes.specs.Shapes.{shape_stmt, shape_if, shape_for, shape_loop, shape_branch, shape_else, lines_of}
use Rattle.go_tree_core.specs.copies.Respelled.{spelled, if_with, for_with, stmt_with, branch_with, else_with, lines_with}
use Rattle.go_tree_core.proofs.CopiesSameTrees.{one_copied, all_copied, line_tree, same_lines, of_made, of_boxed}
use Rattle.go_tree_nodes.proofs.ShapeLemmas.{shape_block, shape_looped, loop_parts, shape_else_block, shape_branched, branch_parts}
use Rattle.go_tree_core.proofs.copies.stmt_copies.+stmts.Goals as goal

pub copy_lines-loop-line-preserved : goal.copy_lines-loop-line-preserved
copy_lines-loop-line-preserved t c =
    let added = c.in-Ok.ensures in
    one_copied (lines_with (spelled c.args.copier.now)) line_tree _ _ _ _ _ added.0 c.loop-line-test.true c.line-item.is added.1 added.2 c.loop-line.invariant

pub add_line-returns : goal.add_line-returns
add_line-returns t c = (_, c.in-Ok-add.ensures, ap (λ s. Line s c.args.line.now.semicolon NoLines) c.in-Ok.ensures)

pub copy_lines-returns : goal.copy_lines-returns
copy_lines-returns t c = same_lines (spelled c.args.copier.now) _ _ (all_copied (lines_with (spelled c.args.copier.now)) line_tree _ _ _ _ c.deref-line-items.ensures.value c.loop-line-test.false c.loop-line.invariant)

pub copy_stmt-returns-in-Ok-copy_lines : goal.copy_stmt-returns-in-Ok-copy_lines
copy_stmt-returns-in-Ok-copy_lines t c =
    let w = c.in-Block in
    shape_block w.«open» c.in-Ok-copy_lines.copy w.close
    ∙ ap (λ l. Block w.«open» l w.close) c.in-Ok-copy_lines.ensures
    ∙ sym (ap (stmt_with (spelled c.args.copier.now)) (ap shape_stmt w.is ∙ shape_block w.«open» w.lines w.close))

pub copy_otherwise-returns-in-Ok : goal.copy_otherwise-returns-in-Ok
copy_otherwise-returns-in-Ok t c =
    let w = c.in-Block in
    shape_else_block w.keyword w.«open» c.in-Ok.copy w.close
    ∙ ap (λ l. ElseBlock w.keyword w.«open» l w.close) c.in-Ok.ensures
    ∙ sym (ap (else_with (spelled c.args.copier.now)) (ap shape_else w.is ∙ shape_else_block w.keyword w.«open» w.lines w.close))

pub copy_branch-returns : goal.copy_branch-returns
copy_branch-returns t c =
    let b = declared_branch.out-Branch c.args.branch.now in
    let head = c.in-Ok.copy.0 in
    let ls = c.in-Ok.copy.1.0 in
    let other = c.in-Ok.copy.1.1 in
    let made = of_made _ _ _ c.in-Ok.ensures.1 c.both.ensures in
    let h = spelled c.args.copier.now in
    let same =
    shape_branched b.keyword head b.«open» ls b.close other
    ∙ ap (λ i. Branch b.keyword i b.«open» (lines_of ls.items) b.close (shape_else other)) (of_made _ _ _ c.in-Ok.ensures.0 c.copy_if_head-head.ensures)
    ∙ ap (λ l. Branch b.keyword (if_with h (shape_if b.head)) b.«open» l b.close (shape_else other)) (of_made _ _ _ made.0 c.copy_lines-then.ensures)
    ∙ ap (Branch b.keyword (if_with h (shape_if b.head)) b.«open» (lines_with h (lines_of b.«then».items)) b.close) (of_made _ _ _ made.1 c.copy_otherwise-otherwise.ensures)
    ∙ sym (ap (branch_with h) (branch_parts c.args.branch.now)) in
    of_boxed shape_branch _ _ _ c.boxed.ensures same

pub copy_loop-returns : goal.copy_loop-returns
copy_loop-returns t c =
    let b = out-Loop c.args.turns.now in
    let ls = c.in-Ok.copy.0 in
    let head = c.in-Ok.copy.1 in
    let h = spelled c.args.copier.now in
    let same =
    shape_looped b.keyword head b.«open» ls b.close
    ∙ ap (λ i. For b.keyword i b.«open» (lines_of ls.items) b.close) (of_made _ _ _ c.in-Ok.ensures.1 c.copy_for_head.ensures)
    ∙ ap (λ l. For b.keyword (for_with h (shape_for b.head)) b.«open» l b.close) (of_made _ _ _ c.in-Ok.ensures.0 c.copy_lines-body.ensures)
    ∙ sym (ap (stmt_with h) (loop_parts c.args.turns.now)) in
    of_boxed shape_loop _ _ _ c.boxed.ensures same

pub copy_stmt-returns-in-Ok-copy_simple : goal.copy_stmt-returns-in-Ok-copy_simple
copy_stmt-returns-in-Ok-copy_simple t c = ap Simple c.in-Ok-copy_simple.ensures ∙ sym (ap (λ s. stmt_with (spelled c.args.copier.now) (shape_stmt s)) c.in-Simple.is)

pub copy_stmt-returns-in-Ok-copy_some_exprs : goal.copy_stmt-returns-in-Ok-copy_some_exprs
copy_stmt-returns-in-Ok-copy_some_exprs t c = ap (Return c.in-Return.keyword) c.in-Ok-copy_some_exprs.ensures ∙ sym (ap (λ s. stmt_with (spelled c.args.copier.now) (shape_stmt s)) c.in-Return.is)

pub copy_stmt-returns-in-Ok-copy_branch : goal.copy_stmt-returns-in-Ok-copy_branch
copy_stmt-returns-in-Ok-copy_branch t c = ap If c.in-Ok-copy_branch.ensures ∙ ap (λ b. If (branch_with (spelled c.args.copier.now) (shape_branch b))) c.deref-in-If.ensures ∙ sym (ap (λ s. stmt_with (spelled c.args.copier.now) (shape_stmt s)) c.in-If.is)
