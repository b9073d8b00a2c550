-- How high types are, by the fields of the program's values.
use Rattle.std.proofs.Common.{◌≡◌, ◌+◌, max, Vec, ap, ◌∙◌}
use Rattle.std.specs.Global.{Global}
use Rattle.go_tree_nodes.specs.text_core.declared.span.Span.{Span}
use Rattle.go_tree_nodes.specs.declared.types.TypeExpr.{TypeExpr}
use Rattle.go_tree_nodes.specs.declared.types.TypeExpr.TheVariants as types
use Rattle.go_tree_nodes.specs.declared.types.FieldLine.{FieldLine}
use Rattle.go_tree_nodes.specs.declared.types.MethodLine.{MethodLine}
use Rattle.go_tree_nodes.specs.declared.types.Signature.{Signature, out-Signature}
use Rattle.go_tree_nodes.specs.declared.types.Results.{Results}
use Rattle.go_tree_nodes.specs.declared.types.Results.TheVariants as results
use Rattle.go_tree_nodes.specs.declared.types.Params.{Params, out-Params}
use Rattle.go_tree_nodes.specs.Heights.{type_height, fields_height, methods_height, signature_height, result_height, params_height}
use Rattle.go_tree_nodes.specs.TypeShapes.{shape_type, shape_signature, shape_results, fields_of, methods_of, params_of}
use Rattle.go_tree_nodes.proofs.TypeShapes.{shape_struct, shape_interface, listed_parts, signature_parts}

pub struct_high : (t : TypeExpr) (k first : Span) (ls : Vec FieldLine Global) (last : Span) → t ≡ types.Struct k first ls last → type_height (shape_type t) ≡ fields_height (fields_of ls.items) + 1
struct_high t k first ls last is = ap (λ t. type_height (shape_type t)) is ∙ ap type_height (shape_struct k first ls last)

pub interface_high : (t : TypeExpr) (k first : Span) (ms : Vec MethodLine Global) (last : Span) → t ≡ types.Interface k first ms last → type_height (shape_type t) ≡ methods_height (methods_of ms.items) + 1
interface_high t k first ms last is = ap (λ t. type_height (shape_type t)) is ∙ ap type_height (shape_interface k first ms last)

pub listed_high : (r : Results) (p : Params) → r ≡ results.Listed p → result_height (shape_results r) ≡ params_height (params_of (out-Params p).entries.items)
listed_high r p is = ap (λ r. result_height (shape_results r)) is ∙ ap result_height (listed_parts p)

pub signature_high : (s : Signature) → signature_height (shape_signature s) ≡ max (params_height (params_of (out-Params (out-Signature s).params).entries.items)) (result_height (shape_results (out-Signature s).results))
signature_high s = ap signature_height (signature_parts s)
