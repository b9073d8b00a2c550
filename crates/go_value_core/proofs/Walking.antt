-- The walk over the identifiers that expressions and types need.
use Rattle.std.proofs.Common.{◌≡◌, List, ◌∷◌, ◌++◌, refl, sym, ap, ◌∙◌}
use Rattle.std.specs.Prelude.{Option}
use Rattle.std.specs.Global.{Box}
use Rattle.go_constant_core.specs.text_core.declared.span.Span.{Span}
use Rattle.go_tree_nodes.specs.declared.names.Ident.{Ident}
use Rattle.go_tree_nodes.specs.declared.names.TextLiteral.{TextLiteral}
use Rattle.go_tree_nodes.specs.declared.types.TypeExpr.TheVariants as types
use Rattle.go_tree_nodes.specs.declared.types.FieldLine.{FieldLine}
use Rattle.go_tree_nodes.specs.declared.types.Fields.{Fields}
use Rattle.go_tree_nodes.specs.declared.types.Fields.TheVariants as fields
use Rattle.go_tree_nodes.specs.declared.types.MethodLine.{MethodLine, MethodLine', out-MethodLine, is-MethodLine'}
use Rattle.go_tree_nodes.specs.declared.types.«Param» as declared_param
use Rattle.go_tree_nodes.specs.declared.exprs.Expr.{Expr}
use Rattle.go_tree_nodes.specs.declared.exprs.Expr.TheVariants as expr
use Rattle.go_tree_nodes.specs.declared.exprs.CallExpr.{CallExpr, out-CallExpr}
use Rattle.go_tree_nodes.specs.declared.exprs.«Item» as declared_item
use Rattle.go_tree_nodes.specs.declared.exprs.LiteralExpr.{LiteralExpr, out-LiteralExpr}
use Rattle.go_tree_nodes.specs.declared.exprs.StructLiteralExpr.{StructLiteralExpr, out-StructLiteralExpr}
use Rattle.go_tree_nodes.specs.Trees.{FieldTrees}
use Rattle.go_tree_nodes.specs.TypeShapes.{shape_type, shape_signature, fields_before, fields_of, methods_of, params_of}
use Rattle.go_tree_nodes.specs.Shapes.{shape, items_of}
use Rattle.go_tree_nodes.proofs.ShapeLemmas.{call_parts, literal_parts, struct_literal_parts}
use Rattle.go_stmt_core.specs.expr_core.Needed.{needed_idents, needed_by_args}
use Rattle.go_tree_nodes.specs.Idents.{type_name_idents, type_idents, fields_idents, methods_idents, signature_type_idents, params_idents}
use Rattle.go_tree_nodes.specs.Idents.{field_idents}

-- types

before : (f : Fields) (tag : Option TextLiteral) (s : Option Span) (rest : FieldTrees) → fields_idents (fields_before f tag s rest) ≡ field_idents f ++ fields_idents rest
before (fields.Named xs t) tag s rest = refl
before (fields.Embedded star n) tag s rest = refl

pub lines_more : (l : FieldLine) (ls : List FieldLine) → fields_idents (fields_of (l ∷ ls)) ≡ field_idents l.fields ++ fields_idents (fields_of ls)
lines_more l ls = before l.fields l.tag l.semicolon (fields_of ls)

abbrev method_idents : MethodLine → List Ident
method_idents (MethodLine' x signature s) = signature_type_idents (shape_signature signature)

method_more : (m : MethodLine) (ms : List MethodLine) → methods_idents (methods_of (m ∷ ms)) ≡ method_idents m ++ methods_idents (methods_of ms)
method_more (MethodLine' x signature s) ms = refl

pub methods_more : (m : MethodLine) (ms : List MethodLine) → methods_idents (methods_of (m ∷ ms)) ≡ signature_type_idents (shape_signature (out-MethodLine m).signature) ++ methods_idents (methods_of ms)
methods_more m ms = method_more m ms ∙ ap (λ l. l ++ methods_idents (methods_of ms)) (ap method_idents (is-MethodLine' m))

pub params_more : (p : declared_param.Param) (ps : List declared_param.Param) → params_idents (params_of (p ∷ ps)) ≡ type_idents (shape_type p.type_expr) ++ params_idents (params_of ps)
params_more p ps = refl

-- expressions

pub args_more : (x : declared_item.Item) (xs : List declared_item.Item) → needed_by_args (items_of (x ∷ xs)) ≡ needed_idents (shape x.value) ++ needed_by_args (items_of xs)
args_more x xs = refl

pub call_has : (e : Expr) (c : Box CallExpr) (c1 c2 : CallExpr) → e ≡ expr.Call c → c1 ≡ c.value → c2 ≡ c.value
    → needed_idents (shape (out-CallExpr c1).callee) ++ needed_by_args (items_of (out-CallExpr c2).args.items) ≡ needed_idents (shape e)
call_has e c c1 c2 is d1 d2 =
    ap (λ x. needed_idents (shape (out-CallExpr x).callee) ++ needed_by_args (items_of (out-CallExpr c2).args.items)) d1
    ∙ (ap (λ x. needed_idents (shape (out-CallExpr c.value).callee) ++ needed_by_args (items_of (out-CallExpr x).args.items)) d2
    ∙ sym (ap needed_idents (ap shape is ∙ call_parts c.value)))

pub literal_has : (e : Expr) (c : Box LiteralExpr) (c1 : LiteralExpr) → e ≡ expr.Literal c → c1 ≡ c.value → type_name_idents (out-LiteralExpr c1).type_name ≡ needed_idents (shape e)
literal_has e c c1 is d1 = ap (λ x. type_name_idents (out-LiteralExpr x).type_name) d1 ∙ sym (ap needed_idents (ap shape is ∙ literal_parts c.value))

pub struct_has : (e : Expr) (c : Box StructLiteralExpr) (c1 : StructLiteralExpr) → e ≡ expr.StructLiteral c → c1 ≡ c.value → type_idents (shape_type (out-StructLiteralExpr c1).type_expr) ≡ needed_idents (shape e)
struct_has e c c1 is d1 = ap (λ x. type_idents (shape_type (out-StructLiteralExpr x).type_expr)) d1 ∙ sym (ap needed_idents (ap shape is ∙ struct_literal_parts c.value))
