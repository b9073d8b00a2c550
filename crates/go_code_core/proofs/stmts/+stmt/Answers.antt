use Rattle.std.proofs.Common.{◌++◌, ◌-◌, length, sym, ap, ◌∙◌}
use Rattle.std.proofs.lemmas.Result.{on_ok_weaker}
use Rattle.go_tree_nodes.specs.Shapes.{lines_of}
use Rattle.go_code_core.specs.Code.{lines_code, stmt_code}
use Rattle.go_code_core.specs.fragments.Names.{frame_of}
use Rattle.go_code_core.specs.mirrors.Written.{else_code, exits_at}
use Rattle.go_tree_nodes.proofs.ShapeLemmas.{block_form, else_form}
use Rattle.go_code_core.proofs.Looping.{branch_made, loop_made, over_else}
use Rattle.go_code_core.proofs.stmts.+stmt.Goals as goal

pub branch-returns : goal.branch-returns
branch-returns g t c =
    on_ok_weaker c.init.result (λ e. branch_made (frame_of (g.N.CodeNames.looks c.args.frame.now.names.now) c.args.frame.now.slots.now) c.args.marks c.args.choice.now c.args.code.now c.otherwise.new.code c.lines.new.code c.test.new.code c.init.new.code c.in_ok-mark.mark
    c.requires c.in_ok-mark.ensures.mark c.in_ok-mark.ensures.code c.in_ok-lines.ensures c.in_ok-test.ensures e) c.init.ensures

pub looped-returns : goal.looped-returns
looped-returns g t c =
    on_ok_weaker c.loop_init.result (λ e x. loop_made (frame_of (g.N.CodeNames.looks c.args.frame.now.names.now) c.args.frame.now.slots.now) x c.args.turns.now c.args.code.now c.put.new.self c.loop_post.new.code c.lines.new.code c.loop_test.new.code c.turn.new.self c.loop_init.new.code
    c.len-end.result c.len-goes_on.result (c.len.result - c.len-end.result) c.len-end.ensures c.in_ok-put.ensures.written c.in_ok-loop_post.ensures c.len-goes_on.ensures c.in_ok-lines.ensures c.in_ok-loop_test.ensures
    (ap (λ n. n - c.len-end.result) c.len.ensures) c.turn.ensures e) c.loop_init.ensures

pub otherwise-returns-in_ok-jump-in-Block-clause-mark : goal.otherwise-returns-in_ok-jump-in-Block-clause-mark
otherwise-returns-in_ok-jump-in-Block-clause-mark g t c =
    let form = else_form c.args.other.now c.in-Block.field-0 c.in-Block.field-1 c.in-Block.inner c.in-Block.field-3 c.in-Block.is in
    c.len-mark.ensures ∙ (ap length c.in_ok-lines-in-Block.ensures ∙ ap (λ o. length ((else_code (frame_of (g.N.CodeNames.looks c.args.frame.now.names.now) c.args.frame.now.slots.now) (exits_at (length c.args.code.now) c.args.marks) o).outside ++ c.args.code.now)) (sym form))

pub otherwise-returns-in_ok-jump-in-Block-clause-code : goal.otherwise-returns-in_ok-jump-in-Block-clause-code
otherwise-returns-in_ok-jump-in-Block-clause-code g t c =
    let form = else_form c.args.other.now c.in-Block.field-0 c.in-Block.field-1 c.in-Block.inner c.in-Block.field-3 c.in-Block.is in
    over_else (lines_code (frame_of (g.N.CodeNames.looks c.args.frame.now.names.now) c.args.frame.now.slots.now) (exits_at (length c.args.code.now) c.args.marks) (lines_of c.in-Block.inner.items)) c.args.code.now c.lines.new.code c.jump.new.code c.len-end.result c.len-end.ensures c.in_ok-lines-in-Block.ensures c.in_ok-jump-in-Block.ensures
    ∙ ap (λ o. (else_code (frame_of (g.N.CodeNames.looks c.args.frame.now.names.now) c.args.frame.now.slots.now) (exits_at (length c.args.code.now) c.args.marks) o).over ++ ((else_code (frame_of (g.N.CodeNames.looks c.args.frame.now.names.now) c.args.frame.now.slots.now) (exits_at (length c.args.code.now) c.args.marks) o).outside ++ c.args.code.now)) (sym form)

pub stmt-returns-in-Block : goal.stmt-returns-in-Block
stmt-returns-in-Block g t c =
    on_ok_weaker c.lines.result (λ e. e ∙ ap (λ s. stmt_code (frame_of (g.N.CodeNames.looks c.args.frame.now.names.now) c.args.frame.now.slots.now) (exits_at (length c.args.code.now) c.args.marks) s ++ c.args.code.now) (sym (block_form c.args.stmt.now c.in-Block.field-0 c.in-Block.inner c.in-Block.field-2 c.in-Block.is))) c.lines.ensures
