use Rattle.std.proofs.Common.{◌≡◌, map, take}
use Rattle.go_tree_nodes.specs.Shapes.{top_of}
use Rattle.go_tree_core.specs.copies.Respelled.{spelled, top_with}
use Rattle.go_tree_core.proofs.copies.stmt_copies.copy_tops.Given as goal

abbrev pub invariant-loop-top : goal.invariant-loop-top
invariant-loop-top l = map top_of l.copies.items ≡ map (λ x. top_with (spelled l.copier) (top_of x)) (take l.top-index l.top-items)
