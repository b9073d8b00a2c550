-- The types of what a program keeps in lists.
use Rattle.std.proofs.Common.{◌≡◌, List, [], ◌∷◌, ◌++◌, refl, ap, sym, ◌∙◌, append-nil}
use Rattle.std.specs.Global.{Box}
use Rattle.std.specs.List.{flat_map}
use Rattle.go_tree_nodes.specs.declared.types.Signature.{Signature, out-Signature}
use Rattle.go_tree_nodes.specs.declared.types.Results as declared_results
use Rattle.go_tree_nodes.specs.declared.types.Results.TheVariants as results
use Rattle.go_tree_nodes.specs.declared.types.Params.{Params, out-Params}
use Rattle.go_tree_nodes.specs.declared.types.«Param» as declared_param
use Rattle.go_tree_nodes.specs.declared.exprs.Expr.{Expr}
use Rattle.go_tree_nodes.specs.declared.exprs.Expr.TheVariants as expr
use Rattle.go_tree_nodes.specs.declared.exprs.CallExpr.{CallExpr, out-CallExpr}
use Rattle.go_tree_nodes.specs.declared.exprs.LiteralExpr.{LiteralExpr, out-LiteralExpr}
use Rattle.go_tree_nodes.specs.declared.exprs.StructLiteralExpr.{StructLiteralExpr, out-StructLiteralExpr}
use Rattle.go_tree_nodes.specs.declared.exprs.«Item» as declared_item
use Rattle.go_tree_nodes.specs.declared.exprs.NextExpr.{NextExpr}
use Rattle.go_tree_nodes.specs.Trees.{TypeTree}
use Rattle.go_tree_nodes.specs.TypeShapes.{shape_type, shape_signature, shape_results, params_of}
use Rattle.go_tree_nodes.specs.Shapes.{shape, items_of, exprs_from}
use Rattle.go_tree_nodes.proofs.TypeShapes.{listed_parts, signature_parts}
use Rattle.go_tree_nodes.proofs.ShapeLemmas.{call_parts, literal_parts, struct_literal_parts}
use Rattle.go_tree_nodes.specs.WrittenTypes.{expr_types, items_types, exprs_types, params_types, result_types, signature_types}

abbrev pub param_type : declared_param.Param → List TypeTree
param_type p = shape_type p.type_expr ∷ []

abbrev pub item_types : declared_item.Item → List TypeTree
item_types i = expr_types (shape i.value)

abbrev pub next_types : NextExpr → List TypeTree
next_types n = expr_types (shape n.expr)

pub params_types_list : (ps : List declared_param.Param) → params_types (params_of ps) ≡ flat_map param_type ps
params_types_list [] = refl
params_types_list (p ∷ ps) = ap (λ ts. shape_type p.type_expr ∷ ts) (params_types_list ps)

pub items_types_list : (is : List declared_item.Item) → items_types (items_of is) ≡ flat_map item_types is
items_types_list [] = refl
items_types_list (i ∷ is) = ap (λ ts. item_types i ++ ts) (items_types_list is)

pub exprs_types_list : (e : Expr) (ns : List NextExpr) → exprs_types (exprs_from e ns) ≡ expr_types (shape e) ++ flat_map next_types ns
exprs_types_list e [] = sym (append-nil (expr_types (shape e)))
exprs_types_list e (n ∷ ns) = ap (λ l. expr_types (shape e) ++ l) (exprs_types_list n.expr ns)

-- values that hold lists

pub signature_has : (s : Signature) → signature_types (shape_signature s) ≡ params_types (params_of (out-Params (out-Signature s).params).entries.items) ++ result_types (shape_results (out-Signature s).results)
signature_has s = ap signature_types (signature_parts s)

pub listed_has : (r : declared_results.Results) (p : Params) → r ≡ results.Listed p → result_types (shape_results r) ≡ params_types (params_of (out-Params p).entries.items)
listed_has r p is = ap (λ r. result_types (shape_results r)) is ∙ ap result_types (listed_parts p)

pub call_has : (t : Expr) (c : Box CallExpr) → t ≡ expr.Call c → expr_types (shape t) ≡ expr_types (shape (out-CallExpr c.value).callee) ++ items_types (items_of (out-CallExpr c.value).args.items)
call_has t c same = ap (λ t. expr_types (shape t)) same ∙ ap expr_types (call_parts c.value)

pub literal_has : (t : Expr) (l : Box LiteralExpr) → t ≡ expr.Literal l → expr_types (shape t) ≡ items_types (items_of (out-LiteralExpr l.value).elements.items)
literal_has t l same = ap (λ t. expr_types (shape t)) same ∙ ap expr_types (literal_parts l.value)

pub struct_literal_has : (t : Expr) (l : Box StructLiteralExpr) → t ≡ expr.StructLiteral l → expr_types (shape t) ≡ (shape_type (out-StructLiteralExpr l.value).type_expr ∷ []) ++ items_types (items_of (out-StructLiteralExpr l.value).elements.items)
struct_literal_has t l same = ap (λ t. expr_types (shape t)) same ∙ ap expr_types (struct_literal_parts l.value)
