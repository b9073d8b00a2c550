use Rattle.std.proofs.Common.{◌++◌, map, ap, sym, ◌∙◌}
use Rattle.std.specs.List.{flat_map}
use Rattle.std.proofs.lemmas.Result.{on_ok_weaker}
use Rattle.go_tree_nodes.specs.Shapes.{shape_value_line, shape_value_specs}
use Rattle.go_expr_core.specs.Looks.{everywhere}
use Rattle.go_stmt_core.specs.piece.Specifications.{spec_uses}
use Rattle.go_stmt_core.specs.toplevel.Tops.{top_spec_faults}
use Rattle.go_stmt_core.proofs.toplevel.values.check_value_decl.Goals as goal
use Rattle.go_tree_nodes.specs.Trees.{of_specs}

pub returns-in-Group-clause-uses : goal.returns-in-Group-clause-uses
returns-in-Group-clause-uses g c =
    let looks = everywhere (g.E.TypeLooks.types c.args.env.now) (g.E.Names.names c.args.env.now) (g.E.Literals.literals c.args.env.now) (g.E.Exprs.written c.args.env.now) in
    let old = c.args.notes.now.uses.items in
    on_ok_weaker c.check_lines.result
    (λ e. e ∙ (ap (λ ls. old ++ flat_map (λ l. spec_uses looks l.0) (map shape_value_line ls)) c.deref.ensures.value
    ∙ ap (λ s. old ++ of_specs (spec_uses looks) (shape_value_specs s)) (sym c.in-Group.is)))
    c.check_lines.ensures.uses

pub returns-in-Group-clause-faults : goal.returns-in-Group-clause-faults
returns-in-Group-clause-faults g c =
    let looks = everywhere (g.E.TypeLooks.types c.args.env.now) (g.E.Names.names c.args.env.now) (g.E.Literals.literals c.args.env.now) (g.E.Exprs.written c.args.env.now) in
    let old = c.args.notes.now.faults.items in
    let kind = c.args.decl.now.kind in
    on_ok_weaker c.check_lines.result
    (λ e. e ∙ (ap (λ ls. old ++ flat_map (λ l. top_spec_faults looks kind l.0) (map shape_value_line ls)) c.deref.ensures.value
    ∙ ap (λ s. old ++ of_specs (top_spec_faults looks kind) (shape_value_specs s)) (sym c.in-Group.is)))
    c.check_lines.ensures.faults
