use Rattle.std.proofs.Common.{◌≡◌, sym, ap, subst, ◌∙◌}
use Rattle.std.specs.Prelude.{IfOk}
use Rattle.std.specs.Option.{option_map}
use Rattle.go_tree_nodes.specs.Trees.{of_specs}
use Rattle.go_tree_nodes.specs.Shapes.{shape_value_specs, shape_type_specs, func_of, decl_of}
use Rattle.go_cursor_core.specs.Used.{spec_used, type_used}
use Rattle.go_cursor_core.specs.Opened.{outside, decl_names, func_opened, first_name}
use Rattle.go_cursor_core.specs.Spots.{spot_seen}
use Rattle.go_cursor_core.proofs.FileLists.{first_outside, first_in_func}
use Rattle.go_cursor_core.proofs.file.spot_in_decl.Goals as goal

pub returns-in-Value : goal.returns-in-Value
returns-in-Value c =
    c.outside_functions.ensures
    ∙ (ap (option_map outside) c.in_value_specs.ensures ∙ (sym (first_outside c.args.start (of_specs spec_used (shape_value_specs c.in-Value.value.specs))) ∙ sym (ap (λ d. first_name c.args.start (decl_names (decl_of d))) c.in-Value.is)))

pub returns-in-Type : goal.returns-in-Type
returns-in-Type c =
    c.outside_functions-in-Type.ensures
    ∙ (ap (option_map outside) c.in_type_specs.ensures ∙ (sym (first_outside c.args.start (of_specs (λ s. type_used s.type_expr) (shape_type_specs c.in-Type.types.specs))) ∙ sym (ap (λ d. first_name c.args.start (decl_names (decl_of d))) c.in-Type.is)))

pub returns-in-Func : goal.returns-in-Func
returns-in-Func c =
    let f = func_of c.in-Func.func in
    subst (λ x. IfOk c.spot_in_func.result (λ found. option_map spot_seen found ≡ x)) (sym (first_in_func c.args.start f (func_opened f)) ∙ sym (ap (λ d. first_name c.args.start (decl_names (decl_of d))) c.in-Func.is)) c.spot_in_func.ensures
