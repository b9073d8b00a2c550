use Rattle.std.proofs.Common.{◌≡◌, ◌++◌, take, drop, []}
use Rattle.go_tree_nodes.specs.Shapes.{items_of}
use Rattle.go_expr_core.specs.Looks.{everywhere}
use Rattle.go_expr_core.specs.Denoting.{denoted_items}
use Rattle.go_expr_core.specs.Elements.{all_keys}
use Rattle.go_expr_core.specs.Uses.{args_uses, items_uses}
use Rattle.go_expr_core.specs.Faults.{args_faults, items_faults}
use Rattle.go_expr_core.proofs.walk.+check.Given as goal

abbrev pub invariant-check_args-loop-item : goal.invariant-check_args-loop-item
invariant-check_args-loop-item g l =
    let looks = everywhere (g.E.TypeLooks.types l.env) (g.E.Names.names l.env) (g.E.Literals.literals l.env) (g.E.Exprs.written l.env) in
    record {
      made : l.members.items ++ denoted_items looks (items_of (drop l.item-index l.item-items)) ≡ [] ++ denoted_items looks (items_of l.item-items);
      used : l.notes.uses.items ++ args_uses looks (items_of (drop l.item-index l.item-items)) ≡ l.fn.notes.uses.items ++ args_uses looks (items_of l.item-items);
      noted : l.notes.faults.items ++ args_faults looks l.several (items_of (drop l.item-index l.item-items)) ≡ l.fn.notes.faults.items ++ args_faults looks l.several (items_of l.item-items);
    }

abbrev pub invariant-check_each-loop-at : goal.invariant-check_each-loop-at
invariant-check_each-loop-at g l =
    let looks = everywhere (g.E.TypeLooks.types l.env) (g.E.Names.names l.env) (g.E.Literals.literals l.env) (g.E.Exprs.written l.env) in
    let xs = l.items.items in
    record {
      used : l.notes.uses.items ++ items_uses looks l.t l.mixed (all_keys (items_of (take l.at xs))) (items_of (drop l.at xs)) ≡ l.fn.notes.uses.items ++ items_uses looks l.t l.mixed [] (items_of xs);
      noted : l.notes.faults.items ++ items_faults looks l.t l.mode l.mixed l.at (all_keys (items_of (take l.at xs))) (items_of (drop l.at xs)) ≡ l.fn.notes.faults.items ++ items_faults looks l.t l.mode l.mixed 0 [] (items_of xs);
    }
