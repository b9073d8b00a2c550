-- The struct types that decide what expressions denote, as the program keeps them.
use Rattle.std.proofs.Common.{◌≡◌, List, [], ◌∷◌, ◌++◌, sym, ap, ap₂, ◌∙◌, append-nil}
use Rattle.std.specs.Global.{Box}
use Rattle.go_tree_nodes.specs.declared.exprs.Expr.{Expr}
use Rattle.go_tree_nodes.specs.declared.exprs.Expr.TheVariants as expr
use Rattle.go_tree_nodes.specs.declared.exprs.CallExpr.{CallExpr, out-CallExpr}
use Rattle.go_tree_nodes.specs.declared.exprs.LiteralExpr.{LiteralExpr}
use Rattle.go_tree_nodes.specs.declared.exprs.StructLiteralExpr.{StructLiteralExpr, out-StructLiteralExpr}
use Rattle.go_tree_nodes.specs.Trees.{TypeTree}
use Rattle.go_tree_nodes.specs.TypeShapes.{shape_type}
use Rattle.go_tree_nodes.specs.Shapes.{shape, items_of}
use Rattle.go_tree_nodes.proofs.ShapeLemmas.{call_parts, literal_parts, struct_literal_parts}
use Rattle.go_expr_core.specs.Locality.{needed_types, needed_types_in}

pub call_needs : (t : Expr) (c : Box CallExpr) (one other : CallExpr) → t ≡ expr.Call c → one ≡ c.value → other ≡ c.value
    → needed_types (shape (out-CallExpr one).callee) ++ needed_types_in (items_of (out-CallExpr other).args.items) ≡ needed_types (shape t)
call_needs t c one other same is also =
    ap₂ (λ (x y : CallExpr). needed_types (shape (out-CallExpr x).callee) ++ needed_types_in (items_of (out-CallExpr y).args.items)) is also
    ∙ sym (ap (λ (x : Expr). needed_types (shape x)) same ∙ ap needed_types (call_parts c.value))

pub literal_needs : (t : Expr) (l : Box LiteralExpr) → t ≡ expr.Literal l → [] ≡ needed_types (shape t)
literal_needs t l same = sym (ap (λ (x : Expr). needed_types (shape x)) same ∙ ap needed_types (literal_parts l.value))

pub struct_literal_needs : (t : Expr) (l : Box StructLiteralExpr) (one : StructLiteralExpr) → t ≡ expr.StructLiteral l → one ≡ l.value → shape_type (out-StructLiteralExpr one).type_expr ∷ [] ≡ needed_types (shape t)
struct_literal_needs t l one same is =
    ap (λ (x : StructLiteralExpr). shape_type (out-StructLiteralExpr x).type_expr ∷ []) is ∙ sym (ap (λ (x : Expr). needed_types (shape x)) same ∙ ap needed_types (struct_literal_parts l.value))

pub none_more : (old more : List TypeTree) → [] ≡ more → old ≡ old ++ more
none_more old more none = sym (append-nil old) ∙ ap (λ (l : List TypeTree). old ++ l) none
