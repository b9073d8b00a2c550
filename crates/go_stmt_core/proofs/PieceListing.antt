-- Lists of names and of expressions, by the first and those behind it.
use Rattle.std.proofs.Common.{◌≡◌, ◌+◌, ◌≤◌, Bool, false, List, [], ◌∷◌, ◌++◌, length, refl, sym, ap, append-nil, arith}
use Rattle.go_tree_nodes.specs.declared.names.Ident.{Ident}
use Rattle.go_tree_nodes.specs.declared.names.NextIdent.{NextIdent}
use Rattle.go_tree_nodes.specs.declared.exprs.Expr.{Expr}
use Rattle.go_tree_nodes.specs.declared.exprs.NextExpr.{NextExpr}
use Rattle.go_tree_nodes.specs.Shapes.{shape, exprs_from}
use Rattle.go_tree_nodes.specs.TypeShapes.{idents_from}
use Rattle.go_expr_core.specs.local_core.Outline.{idents}
use Rattle.go_expr_core.specs.Looks.{Looks}
use Rattle.go_expr_core.specs.Places.{is_call, start}
use Rattle.go_stmt_core.specs.piece.Values.{is_call_alone, list_start, behind}
use Rattle.go_stmt_core.specs.piece.Targets.{target, target_uses, target_faults, targets, targets_uses, targets_faults}
use Rattle.go_stmt_core.specs.piece.Specifications.{names_start}
use Rattle.go_stmt_core.specs.piece.mirrors.Later.{later_targets, later_uses, later_faults, later_idents}

pub names_begin : (x : Ident) (ns : List NextIdent) → names_start (idents_from x ns) ≡ x.span.start
names_begin x [] = refl
names_begin x (n ∷ ns) = refl

pub names_listed : (x : Ident) (ns : List NextIdent) → idents (idents_from x ns) ≡ x ∷ later_idents ns
names_listed x [] = refl
names_listed x (n ∷ ns) = ap (λ l. x ∷ l) (names_listed n.ident ns)

pub names_counted : (x : Ident) (ns : List NextIdent) → length ns + 1 ≡ length (idents (idents_from x ns))
names_counted x [] = refl
names_counted x (n ∷ ns) = let h = names_counted n.ident ns in omega (arith, h)

pub list_begins : (e : Expr) (ns : List NextExpr) → list_start (exprs_from e ns) ≡ start (shape e)
list_begins e [] = refl
list_begins e (n ∷ ns) = refl

pub no_more : (e : Expr) (ns : List NextExpr) → length ns ≤ 0 → behind (exprs_from e ns) ≡ exprs_from e ns
no_more e [] h = refl
no_more e (n ∷ ns) h = absurd (omega (arith, h))

pub not_alone : (e : Expr) (ns : List NextExpr) → 1 ≤ length ns → is_call_alone (exprs_from e ns) ≡ false
not_alone e [] h = absurd (omega (arith, h))
not_alone e (n ∷ ns) h = refl

pub alone : (e : Expr) (ns : List NextExpr) → length ns ≡ 0 → is_call_alone (exprs_from e ns) ≡ is_call (shape e)
alone e [] h = refl
alone e (n ∷ ns) h = absurd (omega (arith, h))

pub all_targets : {T S D P : Type 0} (looks : Looks T S D P) (b : Bool) (e : Expr) (ns : List NextExpr) → targets looks b (exprs_from e ns) ≡ target looks b (shape e) ∷ later_targets looks b ns
all_targets looks b e [] = refl
all_targets looks b e (n ∷ ns) = ap (λ l. target looks b (shape e) ∷ l) (all_targets looks b n.expr ns)

pub all_uses : {T S D P : Type 0} (looks : Looks T S D P) (e : Expr) (ns : List NextExpr) → targets_uses looks (exprs_from e ns) ≡ target_uses looks (shape e) ++ later_uses looks ns
all_uses looks e [] = sym (append-nil (target_uses looks (shape e)))
all_uses looks e (n ∷ ns) = ap (λ l. target_uses looks (shape e) ++ l) (all_uses looks n.expr ns)

pub all_faults : {T S D P : Type 0} (looks : Looks T S D P) (b : Bool) (e : Expr) (ns : List NextExpr) → targets_faults looks b (exprs_from e ns) ≡ target_faults looks b (shape e) ++ later_faults looks b ns
all_faults looks b e [] = sym (append-nil (target_faults looks b (shape e)))
all_faults looks b e (n ∷ ns) = ap (λ l. target_faults looks b (shape e) ++ l) (all_faults looks b n.expr ns)
