use Rattle.std.proofs.Common.{◌≡◌, ◌++◌, map, drop}
use Rattle.go_tree_nodes.specs.Shapes.{items_of}
use Rattle.go_expr_core.specs.Elements.{all_keys}
use Rattle.go_candidate_core.proofs.at_place.keyed.all_keys.Given as goal

abbrev pub invariant-loop-item : goal.invariant-loop-item
invariant-loop-item l = map (λ n. n.now) l.names.items ++ all_keys (items_of (drop l.item-index l.items)) ≡ all_keys (items_of l.items)
