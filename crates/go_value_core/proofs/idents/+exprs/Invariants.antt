use Rattle.std.proofs.Common.{◌≡◌, ◌++◌, drop, map}
use Rattle.go_tree_nodes.specs.Shapes.{items_of}
use Rattle.go_stmt_core.specs.expr_core.Needed.{needed_by_args}
use Rattle.go_value_core.proofs.idents.+exprs.Given as goal

abbrev pub invariant-add_args-loop-item : goal.invariant-add_args-loop-item
invariant-add_args-loop-item l = map (λ x. x.now) l.found.items ++ needed_by_args (items_of (drop l.item-index l.item-items)) ≡ map (λ x. x.now) l.fn.found.items ++ needed_by_args (items_of l.item-items)
