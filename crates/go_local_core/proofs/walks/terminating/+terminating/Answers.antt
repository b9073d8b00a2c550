use Rattle.std.proofs.Common.{true, false, not, ◌&&◌, sym, ap, ◌∙◌}
use Rattle.go_tree_nodes.specs.Shapes.{shape_else, lines_of}
use Rattle.go_local_core.specs.walks.Ends.{is_terminating, is_else_terminating}
use Rattle.go_tree_nodes.proofs.ShapeLemmas.{block_form, else_form}
use Rattle.go_local_core.proofs.WalksTerminatingLemmas.{ends_whole, both_end, then_ends_not}
use Rattle.go_local_core.proofs.walks.terminating.+terminating.Goals as goal

pub are_terminating-loop-line-init : goal.are_terminating-loop-line-init
are_terminating-loop-line-init g t c = ends_whole (g.P.Panics.panics c.args.calls.now) (lines_of c.deref-line-items.result.now)

pub is_else_terminating-returns-in-Block : goal.is_else_terminating-returns-in-Block
is_else_terminating-returns-in-Block g t c = c.are_terminating.ensures ∙ sym (ap (is_else_terminating (g.P.Panics.panics c.args.calls.now)) (else_form c.args.otherwise.now _ _ _ _ c.in-Block.is))

pub is_terminating-returns-in-Block : goal.is_terminating-returns-in-Block
is_terminating-returns-in-Block g t c = c.are_terminating.ensures ∙ sym (ap (is_terminating (g.P.Panics.panics c.args.calls.now)) (block_form c.args.stmt.now _ _ _ c.in-Block.is))

pub is_branch_terminating-returns-then-are_terminating : goal.is_branch_terminating-returns-then-are_terminating
is_branch_terminating-returns-then-are_terminating g t c = both_end (g.P.Panics.panics c.args.calls.now) c.args.branch.now c.are_terminating.result c.is_else_terminating.result c.are_terminating.ensures c.if-are_terminating.true c.is_else_terminating.ensures

pub is_branch_terminating-returns-else-are_terminating : goal.is_branch_terminating-returns-else-are_terminating
is_branch_terminating-returns-else-are_terminating g t c = then_ends_not (g.P.Panics.panics c.args.calls.now) c.args.branch.now c.are_terminating.result c.are_terminating.ensures c.if-are_terminating.false
