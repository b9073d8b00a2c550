-- What reading simple statements gives, in the words of the program.
use Rattle.std.proofs.Common.{◌≡◌, ℕ, zero, suc, ◌-◌, ◌<◌, true, false, List, [], ◌∷◌, length, Err, refl, ap, ◌∙◌, arith, cond}
use Rattle.std.proofs.lemmas.Bool.{lt-ltb}
use Rattle.std.specs.Prelude.{◌==◌}
use Rattle.go_tree_nodes.specs.declared.exprs.Expr.{Expr}
use Rattle.go_tree_nodes.specs.declared.exprs.NextExpr.{NextExpr}
use Rattle.go_tree_nodes.specs.Terminals.{Terminal}
use Rattle.go_tree_nodes.specs.Trees.{Separated, ExprTree}
use Rattle.go_tree_nodes.specs.Heights.{exprs_height}
use Rattle.go_tree_nodes.specs.Shapes.{exprs_from}
use Rattle.go_parse_reader.specs.types.mirrors.Marks.{Grammar, TooHigh, need}
use Rattle.go_parse_core.specs.stmts.mirrors.StmtReading.{single, simple_by, simple_from}

-- several expressions are no single one
pub several : (e : Expr) (ns : List NextExpr) → (length ns == 0) ≡ false → need (single (exprs_from e ns)) ≡ Err Grammar
several e [] many = cc
several e (n ∷ ns) many = refl

-- the budget's step, where the first expressions leave some of it
pub from_more : (n : ℕ) (es : Separated ExprTree) (ts : List Terminal) → exprs_height es < n → simple_from n true es ts ≡ simple_by (n - 1) true es ts
from_more zero es ts low = absurd (omega arith)
from_more (suc b) es ts low =
    let less : b ≡ suc b - 1 = omega arith in
    ap (λ c. cond c (simple_by b true es ts) (Err TooHigh)) (lt-ltb _ _ low) ∙ ap (λ m. simple_by m true es ts) less
