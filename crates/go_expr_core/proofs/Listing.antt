-- Lists of expressions, by the first and those behind it.
use Rattle.std.proofs.Common.{◌≡◌, Bool, true, List, [], ◌∷◌, ◌++◌, length, ◌≤◌, refl, sym, ap, append-nil, arith}
use Rattle.go_tree_nodes.specs.declared.exprs.Expr.{Expr}
use Rattle.go_tree_nodes.specs.declared.exprs.NextExpr.{NextExpr}
use Rattle.go_tree_nodes.specs.Shapes.{shape, exprs_from}
use Rattle.go_denote_core.specs.declared.things.Stand.TheVariants as stands
use Rattle.go_expr_core.specs.Looks.{Looks}
use Rattle.go_expr_core.specs.Denoting.{denoted}
use Rattle.go_expr_core.specs.Uses.{uses}
use Rattle.go_expr_core.specs.Faults.{member_faults}
use Rattle.go_expr_core.specs.Lists.{is_list, denoted_exprs, exprs_uses, exprs_faults}
use Rattle.go_expr_core.specs.mirrors.Later.{later_denoted, later_uses, later_faults}

pub list_denoted : {T S D P : Type 0} (looks : Looks T S D P) (e : Expr) (ns : List NextExpr) → denoted_exprs looks (exprs_from e ns) ≡ denoted looks stands.«Value» (shape e) ∷ later_denoted looks ns
list_denoted looks e [] = refl
list_denoted looks e (n ∷ ns) = ap (λ l. denoted looks stands.«Value» (shape e) ∷ l) (list_denoted looks n.expr ns)

pub list_uses : {T S D P : Type 0} (looks : Looks T S D P) (e : Expr) (ns : List NextExpr) → exprs_uses looks (exprs_from e ns) ≡ uses looks stands.«Value» (shape e) ++ later_uses looks ns
list_uses looks e [] = sym (append-nil (uses looks stands.«Value» (shape e)))
list_uses looks e (n ∷ ns) = ap (λ l. uses looks stands.«Value» (shape e) ++ l) (list_uses looks n.expr ns)

pub list_faults : {T S D P : Type 0} (looks : Looks T S D P) (b : Bool) (e : Expr) (ns : List NextExpr) → exprs_faults looks b (exprs_from e ns) ≡ member_faults looks b (shape e) ++ later_faults looks b ns
list_faults looks b e [] = sym (append-nil (member_faults looks b (shape e)))
list_faults looks b e (n ∷ ns) = ap (λ l. member_faults looks b (shape e) ++ l) (list_faults looks b n.expr ns)

pub more_than_one : (e : Expr) (ns : List NextExpr) → 1 ≤ length ns → is_list (exprs_from e ns) ≡ true
more_than_one e [] h = absurd (omega (arith, h))
more_than_one e (n ∷ ns) h = refl
