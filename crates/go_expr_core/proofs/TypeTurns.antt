-- Loops over the lines of types that are written out.
use Rattle.std.proofs.Common.{◌≡◌, ℕ, ◌+◌, ◌<◌, List, [], ◌∷◌, ◌++◌, map, length, get_or, drop, refl, sym, ap, ◌∙◌, append_assoc, append-nil}
use Rattle.std.specs.Prelude.{Option}
use Rattle.std.proofs.lemmas.List.{map-append, drop_more, drop_all}
use Rattle.std.proofs.Common.{◌≤◌}
use Rattle.go_denote_core.specs.text_core.declared.span.Span.{Span}
use Rattle.go_tree_nodes.specs.declared.names.TextLiteral.{TextLiteral}
use Rattle.go_tree_nodes.specs.declared.types.FieldLine.{FieldLine}
use Rattle.go_tree_nodes.specs.declared.types.Fields.{Fields}
use Rattle.go_tree_nodes.specs.declared.types.Fields.TheVariants as fields
use Rattle.go_tree_nodes.specs.declared.types.MethodLine.{MethodLine, MethodLine', out-MethodLine, is-MethodLine'}
use Rattle.go_tree_nodes.specs.declared.types.Signature.{Signature, out-Signature}
use Rattle.go_tree_nodes.specs.declared.types.Results as declared_results
use Rattle.go_tree_nodes.specs.declared.types.Results.TheVariants as results
use Rattle.go_tree_nodes.specs.declared.types.Params.{Params, out-Params}
use Rattle.go_tree_nodes.specs.declared.types.«Param» as declared_param
use Rattle.go_tree_nodes.specs.TypeShapes.{shape_type, shape_signature, shape_results, fields_before, fields_of, methods_of, params_of}
use Rattle.go_tree_nodes.specs.Trees.{FieldTrees}
use Rattle.go_tree_nodes.proofs.TypeShapes.{listed_parts, signature_parts}
use Rattle.go_expr_core.specs.declared.things.Use.{Use}
use Rattle.go_expr_core.specs.Looks.{Looks}
use Rattle.go_expr_core.specs.Uses.{use_of, type_spots, fields_spots, signature_spots, methods_spots, params_spots, result_spots}
use Rattle.go_expr_core.specs.TypeUses.{type_uses, line_spots, line_uses, fields_uses, methods_uses, signature_uses, result_uses, params_uses}

-- one turn of a loop that adds what an element has
pub step : {A X : Type 0} (whole : List A → List X) (one : A → List X) → ((x : A) (xs : List A) → whole (x ∷ xs) ≡ one x ++ whole xs)
    → (xs : List A) (i : ℕ) (x : A) → i < length xs → x ≡ get_or xs i x → (u0 u1 : List X) → u1 ≡ u0 ++ one x → u1 ++ whole (drop (i + 1) xs) ≡ u0 ++ whole (drop i xs)
step whole one more xs i x h is u0 u1 e =
    let rest = drop (i + 1) xs in
    ap (λ l. l ++ whole rest) e ∙ (append_assoc u0 (one x) (whole rest)
    ∙ ap (λ l. u0 ++ l) (sym (more x rest) ∙ ap whole (ap (λ y. y ∷ rest) is ∙ sym (drop_more xs i x h))))

before_spots : {T S D P : Type 0} (looks : Looks T S D P) (f : Fields) (tag : Option TextLiteral) (s : Option Span) (rest : FieldTrees) → fields_spots looks (fields_before f tag s rest) ≡ line_spots looks f ++ fields_spots looks rest
before_spots looks (fields.Named xs t) tag s rest = refl
before_spots looks (fields.Embedded star n) tag s rest = refl

pub fields_more : {T S D P : Type 0} (looks : Looks T S D P) (l : FieldLine) (ls : List FieldLine) → fields_uses looks (fields_of (l ∷ ls)) ≡ line_uses looks l.fields ++ fields_uses looks (fields_of ls)
fields_more looks l ls = ap (map (use_of looks)) (before_spots looks l.fields l.tag l.semicolon (fields_of ls)) ∙ map-append (use_of looks) (line_spots looks l.fields) (fields_spots looks (fields_of ls))

abbrev method_uses : {T S D P : Type 0} → Looks T S D P → MethodLine → List (Use D P)
method_uses looks (MethodLine' x signature s) = signature_uses looks (shape_signature signature)

method_more : {T S D P : Type 0} (looks : Looks T S D P) (m : MethodLine) (ms : List MethodLine) → methods_uses looks (methods_of (m ∷ ms)) ≡ method_uses looks m ++ methods_uses looks (methods_of ms)
method_more looks (MethodLine' x signature s) ms = map-append (use_of looks) (signature_spots looks (shape_signature signature)) (methods_spots looks (methods_of ms))

pub methods_more : {T S D P : Type 0} (looks : Looks T S D P) (m : MethodLine) (ms : List MethodLine) → methods_uses looks (methods_of (m ∷ ms)) ≡ signature_uses looks (shape_signature (out-MethodLine m).signature) ++ methods_uses looks (methods_of ms)
methods_more looks m ms = method_more looks m ms ∙ ap (λ l. l ++ methods_uses looks (methods_of ms)) (ap (method_uses looks) (is-MethodLine' m))

pub params_more : {T S D P : Type 0} (looks : Looks T S D P) (p : declared_param.Param) (ps : List declared_param.Param) → params_uses looks (params_of (p ∷ ps)) ≡ type_uses looks (shape_type p.type_expr) ++ params_uses looks (params_of ps)
params_more looks p ps = map-append (use_of looks) (type_spots looks (shape_type p.type_expr)) (params_spots looks (params_of ps))

pub signature_has : {T S D P : Type 0} (looks : Looks T S D P) (s : Signature) → signature_uses looks (shape_signature s) ≡ params_uses looks (params_of (out-Params (out-Signature s).params).entries.items) ++ result_uses looks (shape_results (out-Signature s).results)
signature_has looks s =
    ap (signature_uses looks) (signature_parts s)
    ∙ map-append (use_of looks) (params_spots looks (params_of (out-Params (out-Signature s).params).entries.items)) (result_spots looks (shape_results (out-Signature s).results))

pub listed_has : {T S D P : Type 0} (looks : Looks T S D P) (r : declared_results.Results) (p : Params) → r ≡ results.Listed p → result_uses looks (shape_results r) ≡ params_uses looks (params_of (out-Params p).entries.items)
listed_has looks r p is = ap (λ r. result_uses looks (shape_results r)) is ∙ ap (result_uses looks) (listed_parts p)

-- a loop that is at its end
pub ended : {A X : Type 0} (whole : List A → List X) → whole [] ≡ [] → (xs : List A) (i : ℕ) → length xs ≤ i → (u0 u1 : List X) → u1 ++ whole (drop i xs) ≡ u0 ++ whole xs → u1 ≡ u0 ++ whole xs
ended whole none xs i h u0 u1 e = sym (append-nil u1) ∙ (ap (λ l. u1 ++ l) (sym none ∙ ap whole (sym (drop_all i xs h))) ∙ e)
