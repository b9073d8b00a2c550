use Rattle.std.proofs.Common.{◌≡◌, map, take}
use Rattle.go_tree_core.specs.copies.Respelled.{spelled}
use Rattle.go_tree_core.proofs.CopiesSameTrees.{next_expr, other_expr}
use Rattle.go_tree_core.proofs.copies.copies.copy_exprs.Given as goal

abbrev pub invariant-loop-next : goal.invariant-loop-next
invariant-loop-next l = map next_expr l.more.items ≡ map (λ x. other_expr (spelled l.copier) (next_expr x)) (take l.next-index l.next-items)
