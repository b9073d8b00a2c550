use Rattle.std.proofs.Common.{◌≡◌, ◌++◌, drop}
use Rattle.go_tree_nodes.specs.TypeShapes.{params_of}
use Rattle.go_expr_core.specs.Looks.{everywhere}
use Rattle.go_stmt_core.specs.piece.Headers.{entry_types, params_faults}
use Rattle.go_stmt_core.proofs.piece.headers.add_params.Given as goal

abbrev pub invariant-loop-param : goal.invariant-loop-param
invariant-loop-param g l =
    let looks = everywhere (g.E.TypeLooks.types l.env) (g.E.Names.names l.env) (g.E.Literals.literals l.env) (g.E.Exprs.written l.env) in
    record {
      made : l.types.items ++ entry_types looks l.is_each (params_of (drop l.param-index l.param-items)) ≡ l.fn.types.items ++ entry_types looks l.is_each (params_of l.param-items);
      noted : l.faults.items ++ params_faults looks (params_of (drop l.param-index l.param-items)) ≡ l.fn.faults.items ++ params_faults looks (params_of l.param-items);
    }
