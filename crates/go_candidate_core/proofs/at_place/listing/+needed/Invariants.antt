use Rattle.std.proofs.Common.{◌≡◌, ◌++◌, map, drop}
use Rattle.go_tree_nodes.specs.TypeShapes.{shape_type}
use Rattle.go_tree_nodes.specs.Shapes.{items_of}
use Rattle.go_expr_core.specs.Locality.{needed_types_in}
use Rattle.go_candidate_core.proofs.at_place.listing.+needed.Given as goal

abbrev pub invariant-list_needed_args-loop-item : goal.invariant-list_needed_args-loop-item
invariant-list_needed_args-loop-item l =
    map (λ t. shape_type t.now) l.trees.items ++ needed_types_in (items_of (drop l.item-index l.item-items)) ≡ map (λ t. shape_type t.now) l.fn.trees.items ++ needed_types_in (items_of l.item-items)
