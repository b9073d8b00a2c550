use Rattle.std.proofs.Common.{◌++◌, sym, ap, ◌∙◌}
use Rattle.std.proofs.lemmas.Result.{on_ok_weaker}
use Rattle.go_code_core.specs.fragments.Slots.{else_slots, stmt_slots}
use Rattle.go_tree_nodes.proofs.ShapeLemmas.{block_form, else_form}
use Rattle.go_code_core.proofs.FragmentsSlotted.{branch_slotted, loop_slotted}
use Rattle.go_code_core.proofs.fragments.slots.+slots.Goals as goal

pub add_branch-returns : goal.add_branch-returns
add_branch-returns g t c =
    branch_slotted c.add_else.result (g.N.CodeNames.looks c.args.names.now) c.args.branch.now c.args.slots.now.items c.add_init.new.slots.items c.add_lines.new.slots.items c.add_else.new.slots.items c.in_ok-add_init.ensures c.in_ok-add_lines.ensures c.add_else.ensures

pub add_else-returns-in-Block : goal.add_else-returns-in-Block
add_else-returns-in-Block g t c =
    on_ok_weaker c.add_lines.result (λ e. e ∙ ap (λ t. c.args.slots.now.items ++ else_slots (g.N.CodeNames.looks c.args.names.now) t) (sym (else_form c.args.otherwise.now c.in-Block.field-0 c.in-Block.field-1 c.in-Block.lines c.in-Block.field-3 c.in-Block.is))) c.add_lines.ensures

pub add_loop-returns : goal.add_loop-returns
add_loop-returns g t c = loop_slotted c.add_lines.result (g.N.CodeNames.looks c.args.names.now) c.args.turns.now c.args.slots.now.items c.add_head.new.slots.items c.add_lines.new.slots.items c.in_ok-add_head.ensures c.add_lines.ensures

pub add_stmt-returns-in-Block : goal.add_stmt-returns-in-Block
add_stmt-returns-in-Block g t c =
    on_ok_weaker c.add_lines.result (λ e. e ∙ ap (λ t. c.args.slots.now.items ++ stmt_slots (g.N.CodeNames.looks c.args.names.now) t) (sym (block_form c.args.stmt.now c.in-Block.field-0 c.in-Block.lines c.in-Block.field-2 c.in-Block.is))) c.add_lines.ensures
