use Rattle.std.proofs.Common.{◌++◌, map, ap, sym, ◌∙◌}
use Rattle.std.specs.List.{flat_map}
use Rattle.std.proofs.lemmas.Result.{on_ok_weaker}
use Rattle.go_tree_nodes.specs.Shapes.{shape_type_line, shape_type_specs}
use Rattle.go_expr_core.specs.Looks.{everywhere}
use Rattle.go_stmt_core.specs.toplevel.Tops.{type_spec_uses, type_spec_faults}
use Rattle.go_stmt_core.proofs.toplevel.types.check_type_decl.Goals as goal
use Rattle.go_tree_nodes.specs.Trees.{of_specs}

pub returns-in-Group-clause-uses : goal.returns-in-Group-clause-uses
returns-in-Group-clause-uses g c =
    let looks = everywhere (g.E.TypeLooks.types c.args.env.now) (g.E.Names.names c.args.env.now) (g.E.Literals.literals c.args.env.now) (g.E.Exprs.written c.args.env.now) in
    let old = c.args.notes.now.uses.items in
    on_ok_weaker c.check_lines.result
    (λ e. e ∙ (ap (λ ls. old ++ flat_map (λ l. type_spec_uses looks l.0) (map shape_type_line ls)) c.deref.ensures.value
    ∙ ap (λ s. old ++ of_specs (type_spec_uses looks) (shape_type_specs s)) (sym c.in-Group.is)))
    c.check_lines.ensures.uses

pub returns-in-Group-clause-faults : goal.returns-in-Group-clause-faults
returns-in-Group-clause-faults g c =
    let old = c.args.notes.now.faults.items in
    on_ok_weaker c.check_lines.result
    (λ e. e ∙ (ap (λ ls. old ++ flat_map (λ l. type_spec_faults l.0) (map shape_type_line ls)) c.deref.ensures.value
    ∙ ap (λ s. old ++ of_specs type_spec_faults (shape_type_specs s)) (sym c.in-Group.is)))
    c.check_lines.ensures.faults
