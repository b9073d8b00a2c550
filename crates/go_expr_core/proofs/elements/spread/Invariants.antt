use Rattle.std.proofs.Common.{◌≡◌, ◌++◌, drop}
use Rattle.go_tree_nodes.specs.Shapes.{items_of}
use Rattle.go_expr_core.specs.mirrors.Marked.{spread}
use Rattle.go_expr_core.proofs.elements.spread.Given as goal

abbrev pub invariant-loop-item : goal.invariant-loop-item
invariant-loop-item l = l.all.items ++ spread l.rest (items_of (drop l.item-index l.item-items)) ≡ spread l.known (items_of l.item-items)
