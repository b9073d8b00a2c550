-- The initialisers of a list, and what is noted one after another.
use Rattle.std.proofs.Common.{◌≡◌, ℕ, ◌≤◌, List, [], ◌∷◌, ◌++◌, length, take, ap, sym, ◌∙◌}
use Rattle.std.specs.List.{flat_map}
use Rattle.std.proofs.lemmas.List.{append_assoc, append-nil, take_all}
use Rattle.go_tree_nodes.specs.declared.exprs.Expr.{Expr}
use Rattle.go_tree_nodes.specs.declared.exprs.NextExpr.{NextExpr}
use Rattle.go_tree_nodes.specs.Shapes.{shape, exprs_from}
use Rattle.go_expr_core.specs.local_core.declared.Fault.{Fault}
use Rattle.go_expr_core.specs.Looks.{Looks}
use Rattle.go_stmt_core.specs.toplevel.Initial.{expr_initial_faults, list_initial_faults}

-- those of a list are those of its first expression, and of each behind it
pub listed : {T S D P : Type 0} (looks : Looks T S D P) (e : Expr) (ns : List NextExpr)
    → list_initial_faults looks (exprs_from e ns) ≡ expr_initial_faults looks (shape e) ++ flat_map (λ n. expr_initial_faults looks (shape n.expr)) ns
listed looks e [] = sym (append-nil (expr_initial_faults looks (shape e)))
listed looks e (n ∷ ns) = ap (λ l. expr_initial_faults looks (shape e) ++ l) (listed looks n.expr ns)

-- the end of a loop over the expressions behind the first
pub all_listed : {T S D P : Type 0} (looks : Looks T S D P) (e : Expr) (ns seen : List NextExpr) (i : ℕ) (old now : List Fault) → length seen ≤ i → seen ≡ ns
    → now ≡ (old ++ expr_initial_faults looks (shape e)) ++ flat_map (λ n. expr_initial_faults looks (shape n.expr)) (take i seen)
    → now ≡ old ++ list_initial_faults looks (exprs_from e ns)
all_listed looks e ns seen i old now le same done =
    let first = expr_initial_faults looks (shape e) in
    let each : List NextExpr → List Fault = λ l. flat_map (λ n. expr_initial_faults looks (shape n.expr)) l in
    done
    ∙ (ap (λ l. (old ++ first) ++ each l) (take_all i seen le ∙ same)
    ∙ (append_assoc old first (each ns)
    ∙ ap (λ l. old ++ l) (sym (listed looks e ns))))
