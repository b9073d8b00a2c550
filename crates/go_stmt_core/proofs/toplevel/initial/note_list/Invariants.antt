use Rattle.std.proofs.Common.{◌≡◌, ◌++◌, take}
use Rattle.std.specs.List.{flat_map}
use Rattle.go_tree_nodes.specs.Shapes.{shape}
use Rattle.go_expr_core.specs.Looks.{everywhere}
use Rattle.go_stmt_core.specs.toplevel.Initial.{expr_initial_faults}
use Rattle.go_stmt_core.proofs.toplevel.initial.note_list.Given as goal

abbrev pub invariant-loop-next : goal.invariant-loop-next
invariant-loop-next g l =
    let looks = everywhere (g.E.TypeLooks.types l.env) (g.E.Names.names l.env) (g.E.Literals.literals l.env) (g.E.Exprs.written l.env) in
    l.faults.items ≡ (l.fn.faults.items ++ expr_initial_faults looks (shape l.exprs.first)) ++ flat_map (λ n. expr_initial_faults looks (shape n.expr)) (take l.next-index l.next-items)
