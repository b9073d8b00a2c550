-- Expressions that are no names.
use Rattle.std.proofs.Common.{◌≡◌, None, refl}
use Rattle.go_tree_nodes.specs.declared.exprs.Expr.{Expr}
use Rattle.go_tree_nodes.specs.declared.exprs.Expr.TheVariants as expr
use Rattle.go_tree_nodes.specs.declared.exprs.CallExpr.{CallExpr'}
use Rattle.go_tree_nodes.specs.declared.exprs.LiteralExpr.{LiteralExpr'}
use Rattle.go_tree_nodes.specs.declared.exprs.StructLiteralExpr.{StructLiteralExpr'}
use Rattle.go_tree_nodes.specs.declared.names.Ident.{Ident}
use Rattle.go_tree_nodes.specs.Naming.{name_of}
use Rattle.go_tree_nodes.specs.Shapes.{shape}

-- any other expression is no name
pub unnamed : (e : Expr) → ((x : Ident) → e ≡ expr.Name x → ⊥) → None ≡ name_of (shape e)
unnamed (expr.Name x) other = absurd (other x refl)
unnamed (expr.Call' _ (CallExpr' e first _ row last)) other = refl
unnamed (expr.Literal' _ (LiteralExpr' n first _ row last)) other = refl
unnamed (expr.StructLiteral' _ (StructLiteralExpr' t first _ row last)) other = refl
unnamed _ other = refl
