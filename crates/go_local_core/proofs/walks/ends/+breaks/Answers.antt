use Rattle.std.proofs.Common.{sym, ap, ◌∙◌}
use Rattle.go_local_core.specs.walks.Ends.{has_break, else_has_break}
use Rattle.go_tree_nodes.proofs.ShapeLemmas.{block_form, else_form}
use Rattle.go_local_core.proofs.WalksEndLemmas.{loop_is, break_in_then, break_in_else}
use Rattle.go_local_core.proofs.walks.ends.+breaks.Goals as goal

pub branch_has_break-returns-then-lines_have_break : goal.branch_has_break-returns-then-lines_have_break
branch_has_break-returns-then-lines_have_break t c = break_in_then c.args.branch.now c.lines_have_break.result c.lines_have_break.ensures c.if-lines_have_break.true

pub branch_has_break-returns-else-lines_have_break : goal.branch_has_break-returns-else-lines_have_break
branch_has_break-returns-else-lines_have_break t c = break_in_else c.args.branch.now c.lines_have_break.result c.else_has_break.result c.lines_have_break.ensures c.if-lines_have_break.false c.else_has_break.ensures

pub else_has_break-returns-in-Block : goal.else_has_break-returns-in-Block
else_has_break-returns-in-Block t c = c.lines_have_break.ensures ∙ sym (ap else_has_break (else_form c.args.otherwise.now _ _ _ _ c.in-Block.is))

pub has_break-returns-in-Block : goal.has_break-returns-in-Block
has_break-returns-in-Block t c = c.lines_have_break.ensures ∙ sym (ap has_break (block_form c.args.stmt.now _ _ _ c.in-Block.is))

pub has_break-returns-in-For : goal.has_break-returns-in-For
has_break-returns-in-For t c = sym (ap has_break (loop_is c.args.stmt.now _ c.in-For.is))
