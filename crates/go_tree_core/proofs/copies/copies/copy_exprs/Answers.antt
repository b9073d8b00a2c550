use Rattle.std.proofs.Common.{ap}
use Rattle.go_tree_core.specs.copies.Respelled.{spelled}
use Rattle.go_tree_core.proofs.CopiesSameTrees.{one_copied, all_copied, next_expr, other_expr, same_exprs}
use Rattle.go_tree_core.proofs.copies.copies.copy_exprs.Goals as goal

pub loop-next-preserved : goal.loop-next-preserved
loop-next-preserved c = one_copied (other_expr (spelled c.args.copier.now)) next_expr _ _ _ _ _ _ c.loop-next-test.true c.next-item.is c.in-Ok-add.ensures (ap (λ e. (c.next-item.result.comma, e)) c.in-Ok.ensures) c.loop-next.invariant

pub returns : goal.returns
returns c = same_exprs (spelled c.args.copier.now) _ _ _ _ c.in-Ok-copy_expr.ensures (all_copied (other_expr (spelled c.args.copier.now)) next_expr _ _ _ _ c.deref-next-items.ensures.value c.loop-next-test.false c.loop-next.invariant)
