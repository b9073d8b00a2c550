use Rattle.std.proofs.Common.{ap, sym, ◌∙◌, map}
use Rattle.go_tree_nodes.specs.TypeShapes.{shape_type, shape_signature, shape_results, fields_of, methods_of, params_of}
use Rattle.go_tree_nodes.specs.declared.types.Signature.{out-Signature}
use Rattle.go_tree_nodes.specs.declared.types.MethodLine.{MethodLine, out-MethodLine}
use Rattle.go_tree_nodes.specs.declared.types.FieldLine.{FieldLine}
use Rattle.go_tree_nodes.specs.declared.types.«Param» as declared_param
use Rattle.go_tree_nodes.specs.declared.types.Params.{out-Params}
use Rattle.go_tree_nodes.proofs.TypeShapes.{shape_struct, shape_interface}
use Rattle.go_tree_nodes.proofs.IdentLemmas.{signature_has, listed_has}
use Rattle.go_stmt_core.specs.expr_core.Steps.{ok_adds, ok_both}
use Rattle.go_value_core.proofs.Walking.{lines_more, methods_more, params_more}
use Rattle.go_value_core.proofs.type_idents.+types.Goals as goal
use Rattle.go_tree_nodes.specs.Idents.{type_idents, fields_idents, methods_idents, signature_type_idents, params_idents, result_type_idents}
use Rattle.go_tree_nodes.specs.Idents.{field_idents}

pub add_results-returns-in-Listed : goal.add_results-returns-in-Listed
add_results-returns-in-Listed t c = ok_adds c.add_params.result _ _ _ _ (sym (listed_has c.args.results.now c.in-Listed.params c.in-Listed.is)) c.add_params.ensures

pub add_signature-returns : goal.add_signature-returns
add_signature-returns t c =
    ok_both c.add_results.result _ _ _ (params_idents (params_of (out-Params (out-Signature c.args.signature.now).params).entries.items)) (result_type_idents (shape_results (out-Signature c.args.signature.now).results)) (signature_type_idents (shape_signature c.args.signature.now))
    c.in_ok-add_params.ensures (sym (signature_has c.args.signature.now)) c.add_results.ensures

pub add_type-returns-in-Struct : goal.add_type-returns-in-Struct
add_type-returns-in-Struct t c =
    let w = c.in-Struct in
    ok_adds c.add_lines.result _ _ _ _ (sym (ap type_idents (ap shape_type w.is ∙ shape_struct w.field-0 w.field-1 w.lines w.field-3))) c.add_lines.ensures

pub add_type-returns-in-Interface : goal.add_type-returns-in-Interface
add_type-returns-in-Interface t c =
    let w = c.in-Interface in
    ok_adds c.add_methods.result _ _ _ _ (sym (ap type_idents (ap shape_type w.is ∙ shape_interface w.field-0 w.field-1 w.methods w.field-3))) c.add_methods.ensures
