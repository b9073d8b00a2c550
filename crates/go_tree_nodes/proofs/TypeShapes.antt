-- Rows of lines, methods and parameters, as lists of them.
use Rattle.std.proofs.Common.{◌≡◌, Vec, refl, ap, ◌∙◌}
use Rattle.std.specs.Global.{Global}
use mathlib.Core.Former.{Count}
use Rattle.std.specs.Prelude.{Option}
use Rattle.go_token_core.specs.text_core.declared.span.Span.{Span}
use Rattle.go_tree_nodes.specs.declared.names.Ident.{Ident}
use Rattle.go_tree_nodes.specs.declared.types.TypeExpr.{TypeExpr, Row_of-FieldLine, end_of-FieldLine, more_of-FieldLine, items-the_row-FieldLine, items_hidden-the_row-FieldLine-0, Row_of-MethodLine, end_of-MethodLine, more_of-MethodLine, items-the_row-MethodLine, items_hidden-the_row-MethodLine-1}
use Rattle.go_tree_nodes.specs.declared.types.TypeExpr.TheVariants as types
use Rattle.go_tree_nodes.specs.declared.types.Fields.TheBlock.{hidden-the_row-Param-2}
use Rattle.go_tree_nodes.specs.declared.types.Fields.TheVariants as declared_fields
use Rattle.go_tree_nodes.specs.declared.types.FieldLine.{FieldLine}
use Rattle.go_tree_nodes.specs.declared.types.MethodLine.{MethodLine, MethodLine', roll-MethodLine, rolls-MethodLine'}
use Rattle.go_tree_nodes.specs.declared.types.Signature.{Signature, Signature', out-Signature, roll-Signature, rolls-Signature', is-Signature'}
use Rattle.go_tree_nodes.specs.declared.types.Results as declared_results
use Rattle.go_tree_nodes.specs.declared.types.Results.TheVariants as results
use Rattle.go_tree_nodes.specs.declared.types.Params.{Params, out-Params, roll-Params, rolls-Params', is-Params', Row_of-Param, end_of-Param, more_of-Param, items-the_row-Param, items_hidden-the_row-Param-2}
use Rattle.go_tree_nodes.specs.declared.types.«Param» as declared_param
use Rattle.go_tree_nodes.specs.Trees.{Struct, Interface, NamedFields, EmbeddedField, Method, Param, Signed, Results}
use Rattle.go_tree_nodes.specs.TypeShapes.{shape_idents, shape_names, shape_type, shape_fields, shape_methods, shape_signature, shape_results, shape_params, fields_of, methods_of, params_of}

row_fields : (n : _) (row : Row_of-FieldLine n) → shape_fields row ≡ fields_of (items-the_row-FieldLine n row)
row_fields n end_of-FieldLine = refl
row_fields n (more_of-FieldLine (declared_fields.Named xs t) tag s rest) = ap (NamedFields (shape_idents xs) (shape_type t) tag s) (row_fields _ rest)
row_fields n (more_of-FieldLine (declared_fields.Embedded star x) tag s rest) = ap (EmbeddedField star x tag s) (row_fields _ rest)

row_methods : (n : _) (row : Row_of-MethodLine n) → shape_methods row ≡ methods_of (items-the_row-MethodLine n row)
row_methods n end_of-MethodLine = refl
row_methods n (more_of-MethodLine (MethodLine' x signature s) rest) = ap (Method x (shape_signature signature) s) (row_methods _ rest)

row_params : (n : _) (row : Row_of-Param n) → shape_params row ≡ params_of (items-the_row-Param n row)
row_params n end_of-Param = refl
row_params n (more_of-Param names t comma rest) = ap (Param (shape_names names) (shape_type t) comma) (row_params _ rest)

abbrev fields_row : TypeExpr → (n : Count) × Row_of-FieldLine n
fields_row (types.Struct' k first _ row last) = (_, row)
fields_row _ = (_, end_of-FieldLine)

abbrev methods_row : TypeExpr → (n : Count) × Row_of-MethodLine n
methods_row (types.Interface' k first _ row last) = (_, row)
methods_row _ = (_, end_of-MethodLine)

-- the tree of a struct type is that of the list of its lines
pub shape_struct : (k first : Span) (ls : Vec FieldLine Global) (last : Span) → shape_type (types.Struct k first ls last) ≡ Struct k first (fields_of ls.items) last
shape_struct k first ls last =
    let row = fields_row (types.Struct k first ls last) in
    ap (λ l. Struct k first l last) (row_fields row.0 row.1 ∙ ap fields_of (items_hidden-the_row-FieldLine-0 ls))

-- the tree of an interface type is that of the list of its methods
pub shape_interface : (k first : Span) (ms : Vec MethodLine Global) (last : Span) → shape_type (types.Interface k first ms last) ≡ Interface k first (methods_of ms.items) last
shape_interface k first ms last =
    let row = methods_row (types.Interface k first ms last) in
    ap (λ l. Interface k first l last) (row_methods row.0 row.1 ∙ ap methods_of (items_hidden-the_row-MethodLine-1 ms))

-- the tree of a parameter list is that of the list of its entries
pub shape_entries : (ps : Vec declared_param.Param Global) → shape_params (hidden-the_row-Param-2 ps) ≡ params_of ps.items
shape_entries ps = row_params _ (hidden-the_row-Param-2 ps) ∙ ap params_of (items_hidden-the_row-Param-2 ps)

-- values that the program builds, by their fields

pub method_rolled : (x : Ident) (signature : Signature) (s : Option Span) → roll-MethodLine (record { name = x; signature = signature; semicolon = s }) ≡ MethodLine' x signature s
method_rolled x signature s = rolls-MethodLine' (record { name = x; signature = signature; semicolon = s })

pub shape_listed : (first : Span) (ps : Vec declared_param.Param Global) (last : Span) → shape_results (results.Listed (roll-Params (record { «open» = first; entries = ps; close = last }))) ≡ Results first (params_of ps.items) last
shape_listed first ps last =
    ap (λ p. shape_results (results.Listed p)) (rolls-Params' (record { «open» = first; entries = ps; close = last })) ∙ ap (λ l. Results first l last) (shape_entries ps)

pub shape_signed : (first : Span) (ps : Vec declared_param.Param Global) (last : Span) (r : declared_results.Results) → shape_signature (roll-Signature (record { params = roll-Params (record { «open» = first; entries = ps; close = last }); results = r })) ≡ Signed first (params_of ps.items) last (shape_results r)
shape_signed first ps last r =
    let p = roll-Params (record { «open» = first; entries = ps; close = last }) in
    ap shape_signature (rolls-Signature' (record { params = p; results = r }))
    ∙ ap (λ p. shape_signature (Signature' p r)) (rolls-Params' (record { «open» = first; entries = ps; close = last }))
    ∙ ap (λ l. Signed first l last (shape_results r)) (shape_entries ps)

-- values that the program takes apart, by their fields

pub listed_parts : (p : Params) → shape_results (results.Listed p) ≡ Results (out-Params p).«open» (params_of (out-Params p).entries.items) (out-Params p).close
listed_parts p =
    ap (λ p. shape_results (results.Listed p)) (is-Params' p) ∙ ap (λ l. Results (out-Params p).«open» l (out-Params p).close) (shape_entries (out-Params p).entries)

pub signature_parts : (s : Signature) → shape_signature s ≡ Signed (out-Params (out-Signature s).params).«open» (params_of (out-Params (out-Signature s).params).entries.items) (out-Params (out-Signature s).params).close (shape_results (out-Signature s).results)
signature_parts s =
    let p = (out-Signature s).params in
    let r = (out-Signature s).results in
    ap shape_signature (is-Signature' s) ∙ ap (λ p. shape_signature (Signature' p r)) (is-Params' p) ∙ ap (λ l. Signed (out-Params p).«open» l (out-Params p).close (shape_results r)) (shape_entries (out-Params p).entries)
