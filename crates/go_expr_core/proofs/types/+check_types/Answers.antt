use Rattle.std.proofs.Common.{ap, sym, ◌∙◌}
use Rattle.go_tree_nodes.specs.TypeShapes.{shape_type, shape_signature, shape_results, params_of}
use Rattle.go_tree_nodes.specs.declared.types.Signature.{out-Signature}
use Rattle.go_tree_nodes.specs.declared.types.Params.{out-Params}
use Rattle.go_tree_nodes.proofs.TypeShapes.{shape_struct, shape_interface}
use Rattle.go_expr_core.specs.Looks.{everywhere}
use Rattle.go_expr_core.specs.TypeUses.{type_uses, params_uses, result_uses, signature_uses}
use Rattle.go_expr_core.proofs.Steps.{ok_adds, ok_both}
use Rattle.go_expr_core.proofs.TypeTurns.{signature_has, listed_has}
use Rattle.go_expr_core.proofs.types.+check_types.Goals as goal

pub check_results-returns-in-Listed : goal.check_results-returns-in-Listed
check_results-returns-in-Listed g t c =
    let looks = everywhere (g.E.TypeLooks.types c.args.env.now) (g.E.Names.names c.args.env.now) (g.E.Literals.literals c.args.env.now) (g.E.Exprs.written c.args.env.now) in
    ok_adds c.check_params.result c.check_params.new.uses.items c.args.uses.now.items _ _ (sym (listed_has looks c.args.results.now c.in-Listed.params c.in-Listed.is)) c.check_params.ensures

pub check_signature-returns : goal.check_signature-returns
check_signature-returns g t c =
    let looks = everywhere (g.E.TypeLooks.types c.args.env.now) (g.E.Names.names c.args.env.now) (g.E.Literals.literals c.args.env.now) (g.E.Exprs.written c.args.env.now) in
    ok_both c.check_results.result c.args.uses.now.items c.check_params.new.uses.items c.check_results.new.uses.items (params_uses looks (params_of (out-Params (out-Signature c.args.signature.now).params).entries.items)) (result_uses looks (shape_results (out-Signature c.args.signature.now).results)) (signature_uses looks (shape_signature c.args.signature.now)) c.in_ok-check_params.ensures (sym (signature_has looks c.args.signature.now)) c.check_results.ensures

pub check_type-returns-in-Struct : goal.check_type-returns-in-Struct
check_type-returns-in-Struct g t c =
    let looks = everywhere (g.E.TypeLooks.types c.args.env.now) (g.E.Names.names c.args.env.now) (g.E.Literals.literals c.args.env.now) (g.E.Exprs.written c.args.env.now) in
    let w = c.in-Struct in
    ok_adds c.check_field_lines.result c.check_field_lines.new.uses.items c.args.uses.now.items _ _ (sym (ap (type_uses looks) (ap shape_type w.is ∙ shape_struct w.field-0 w.field-1 w.lines w.field-3))) c.check_field_lines.ensures

pub check_type-returns-in-Interface : goal.check_type-returns-in-Interface
check_type-returns-in-Interface g t c =
    let looks = everywhere (g.E.TypeLooks.types c.args.env.now) (g.E.Names.names c.args.env.now) (g.E.Literals.literals c.args.env.now) (g.E.Exprs.written c.args.env.now) in
    let w = c.in-Interface in
    ok_adds c.check_methods.result c.check_methods.new.uses.items c.args.uses.now.items _ _ (sym (ap (type_uses looks) (ap shape_type w.is ∙ shape_interface w.field-0 w.field-1 w.methods w.field-3))) c.check_methods.ensures
