use Rattle.std.proofs.Common.{◌≡◌, ◌++◌, drop}
use Rattle.go_tree_nodes.specs.TypeShapes.{fields_of, methods_of, params_of}
use Rattle.go_expr_core.specs.Looks.{everywhere}
use Rattle.go_expr_core.specs.TypeUses.{fields_uses, methods_uses, params_uses}
use Rattle.go_expr_core.proofs.types.+check_types.Given as goal

abbrev pub invariant-check_field_lines-loop-line : goal.invariant-check_field_lines-loop-line
invariant-check_field_lines-loop-line g l =
    let looks = everywhere (g.E.TypeLooks.types l.env) (g.E.Names.names l.env) (g.E.Literals.literals l.env) (g.E.Exprs.written l.env) in
    l.uses.items ++ fields_uses looks (fields_of (drop l.line-index l.line-items)) ≡ l.fn.uses.items ++ fields_uses looks (fields_of l.line-items)

abbrev pub invariant-check_methods-loop-method : goal.invariant-check_methods-loop-method
invariant-check_methods-loop-method g l =
    let looks = everywhere (g.E.TypeLooks.types l.env) (g.E.Names.names l.env) (g.E.Literals.literals l.env) (g.E.Exprs.written l.env) in
    l.uses.items ++ methods_uses looks (methods_of (drop l.method-index l.method-items)) ≡ l.fn.uses.items ++ methods_uses looks (methods_of l.method-items)

abbrev pub invariant-check_params-loop-param : goal.invariant-check_params-loop-param
invariant-check_params-loop-param g l =
    let looks = everywhere (g.E.TypeLooks.types l.env) (g.E.Names.names l.env) (g.E.Literals.literals l.env) (g.E.Exprs.written l.env) in
    l.uses.items ++ params_uses looks (params_of (drop l.param-index l.param-items)) ≡ l.fn.uses.items ++ params_uses looks (params_of l.param-items)
