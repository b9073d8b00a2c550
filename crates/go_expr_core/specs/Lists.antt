-- Lists of expressions with commas between them, as operands.
--
-- docs/RULES.md, "Expressions: roles, order, faults of parts". The Go specification, "Assignment statements", "Return statements".
use Rattle.std.specs.Prelude.{Bool, true, false, List, [], ◌∷◌, ◌++◌}
use Rattle.go_tree_nodes.specs.Trees.{Separated, One, Then, ExprTree}
use Rattle.go_denote_core.specs.declared.things.Stand.TheVariants as stands
use Rattle.go_denote_core.specs.declared.things.Denoted.{Denoted}
use Rattle.go_expr_core.specs.declared.things.Use.{Use}
use Rattle.go_local_core.specs.declared.Fault.{Fault}
use Rattle.go_expr_core.specs.Looks.{Looks}
use Rattle.go_expr_core.specs.Denoting.{denoted}
use Rattle.go_expr_core.specs.Uses.{uses}
use Rattle.go_expr_core.specs.Faults.{member_faults}

-- more than one
abbrev pub is_list : Separated ExprTree → Bool
is_list (One e) = false
is_list (Then e comma more) = true

abbrev pub denoted_exprs : {T S D P : Type 0} → Looks T S D P → Separated ExprTree → List (Denoted T S D)
denoted_exprs looks (One e) = denoted looks stands.«Value» e ∷ []
denoted_exprs looks (Then e comma more) = denoted looks stands.«Value» e ∷ denoted_exprs looks more

abbrev pub exprs_uses : {T S D P : Type 0} → Looks T S D P → Separated ExprTree → List (Use D P)
exprs_uses looks (One e) = uses looks stands.«Value» e
exprs_uses looks (Then e comma more) = uses looks stands.«Value» e ++ exprs_uses looks more

-- in a list of several each is to be one value
abbrev pub exprs_faults : {T S D P : Type 0} → Looks T S D P → Bool → Separated ExprTree → List Fault
exprs_faults looks several (One e) = member_faults looks several e
exprs_faults looks several (Then e comma more) = member_faults looks several e ++ exprs_faults looks several more
