-- The expressions of a list behind the first.
use Rattle.std.specs.Prelude.{Bool, List, [], ◌∷◌, ◌++◌}
use Rattle.go_tree_nodes.specs.declared.exprs.NextExpr.{NextExpr}
use Rattle.go_tree_nodes.specs.Shapes.{shape}
use Rattle.go_denote_core.specs.declared.things.Stand.TheVariants as stands
use Rattle.go_denote_core.specs.declared.things.Denoted.{Denoted}
use Rattle.go_expr_core.specs.declared.things.Use.{Use}
use Rattle.go_local_core.specs.declared.Fault.{Fault}
use Rattle.go_expr_core.specs.Looks.{Looks}
use Rattle.go_expr_core.specs.Denoting.{denoted}
use Rattle.go_expr_core.specs.Uses.{uses}
use Rattle.go_expr_core.specs.Faults.{member_faults}

abbrev pub later_denoted : {T S D P : Type 0} → Looks T S D P → List NextExpr → List (Denoted T S D)
later_denoted looks [] = []
later_denoted looks (n ∷ ns) = denoted looks stands.«Value» (shape n.expr) ∷ later_denoted looks ns

abbrev pub later_uses : {T S D P : Type 0} → Looks T S D P → List NextExpr → List (Use D P)
later_uses looks [] = []
later_uses looks (n ∷ ns) = uses looks stands.«Value» (shape n.expr) ++ later_uses looks ns

abbrev pub later_faults : {T S D P : Type 0} → Looks T S D P → Bool → List NextExpr → List Fault
later_faults looks several [] = []
later_faults looks several (n ∷ ns) = member_faults looks several (shape n.expr) ++ later_faults looks several ns
