use Rattle.std.proofs.Common.{◌≡◌, ◌++◌, map, take}
use Rattle.std.specs.List.{flat_map}
use Rattle.go_tree_nodes.specs.Shapes.{shape_value_line}
use Rattle.go_expr_core.specs.Looks.{everywhere}
use Rattle.go_stmt_core.specs.piece.Specifications.{spec_uses}
use Rattle.go_stmt_core.specs.toplevel.Tops.{top_spec_faults}
use Rattle.go_stmt_core.proofs.toplevel.values.check_lines.Given as goal

abbrev pub invariant-loop-line : goal.invariant-loop-line
invariant-loop-line g l =
    let looks = everywhere (g.E.TypeLooks.types l.env) (g.E.Names.names l.env) (g.E.Literals.literals l.env) (g.E.Exprs.written l.env) in
    record {
      used : l.notes.uses.items ≡ l.fn.notes.uses.items ++ flat_map (λ x. spec_uses looks x.0) (map shape_value_line (take l.line-index l.lines));
      noted : l.notes.faults.items ≡ l.fn.notes.faults.items ++ flat_map (λ x. top_spec_faults looks l.kind x.0) (map shape_value_line (take l.line-index l.lines));
    }
