use Rattle.std.proofs.Common.{◌≡◌, map, take}
use Rattle.go_tree_core.specs.copies.Respelled.{spelled, items_with}
use Rattle.go_tree_core.proofs.CopiesSameTrees.{item_tree}
use Rattle.go_tree_core.proofs.copies.copies.+exprs.Given as goal

abbrev pub invariant-copy_items-loop-item : goal.invariant-copy_items-loop-item
invariant-copy_items-loop-item l = map item_tree l.copies.items ≡ map (λ x. items_with (spelled l.copier) (item_tree x)) (take l.item-index l.item-items)
