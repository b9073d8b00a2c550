use Rattle.std.proofs.Common.{rules, sym, ap, ◌∙◌}
use Rattle.go_tree_nodes.proofs.ShapeLemmas.{branch_parts, block_form, else_form}
use Rattle.go_code_core.specs.fragments.Inside.{else_inside, stmt_inside}
use Rattle.go_code_core.specs.fragments.Names.{frame_of}
use Rattle.go_code_core.proofs.FragmentsForms.{loop_with, loop_without}
use Rattle.go_code_core.proofs.fragments.inside.+inside.Goals as goal

pub branch_inside-returns-then-lines_inside : goal.branch_inside-returns-then-lines_inside
branch_inside-returns-then-lines_inside g t c = rw (branch_parts c.args.branch.now) (search rules)

pub branch_inside-returns-else-lines_inside : goal.branch_inside-returns-else-lines_inside
branch_inside-returns-else-lines_inside g t c = rw (branch_parts c.args.branch.now) (search rules)

pub else_inside-returns-in-Block : goal.else_inside-returns-in-Block
else_inside-returns-in-Block g t c =
    c.lines_inside.ensures ∙ ap (else_inside (frame_of (g.N.CodeNames.looks c.args.frame.now.names.now) c.args.frame.now.slots.now)) (sym (else_form c.args.otherwise.now c.in-Block.field-0 c.in-Block.field-1 c.in-Block.lines c.in-Block.field-3 c.in-Block.is))

pub loop_inside-returns-then-head_inside : goal.loop_inside-returns-then-head_inside
loop_inside-returns-then-head_inside g t c =
    loop_with (frame_of (g.N.CodeNames.looks c.args.frame.now.names.now) c.args.frame.now.slots.now) c.args.turns.now c.head_inside.result c.lines_inside.result c.head_inside.ensures c.if-head_inside.true c.lines_inside.ensures

pub loop_inside-returns-else-head_inside : goal.loop_inside-returns-else-head_inside
loop_inside-returns-else-head_inside g t c = c.if-head_inside.false ∙ loop_without (frame_of (g.N.CodeNames.looks c.args.frame.now.names.now) c.args.frame.now.slots.now) c.args.turns.now c.head_inside.result c.head_inside.ensures c.if-head_inside.false

pub stmt_inside-returns-in-Block : goal.stmt_inside-returns-in-Block
stmt_inside-returns-in-Block g t c = c.lines_inside.ensures ∙ ap (stmt_inside (frame_of (g.N.CodeNames.looks c.args.frame.now.names.now) c.args.frame.now.slots.now)) (sym (block_form c.args.stmt.now c.in-Block.field-0 c.in-Block.lines c.in-Block.field-2 c.in-Block.is))
