-- The left sides of assignments and short declarations behind the first.
use Rattle.std.specs.Prelude.{Bool, List, [], ◌∷◌, ◌++◌}
use Rattle.go_tree_nodes.specs.declared.names.Ident.{Ident}
use Rattle.go_tree_nodes.specs.declared.names.NextIdent.{NextIdent}
use Rattle.go_tree_nodes.specs.declared.exprs.NextExpr.{NextExpr}
use Rattle.go_tree_nodes.specs.Shapes.{shape}
use Rattle.go_stmt_core.specs.declared.statement.targets.Target.{Target}
use Rattle.go_expr_core.specs.declared.things.Use.{Use}
use Rattle.go_expr_core.specs.local_core.declared.Fault.{Fault}
use Rattle.go_expr_core.specs.Looks.{Looks}
use Rattle.go_stmt_core.specs.piece.Targets.{target, target_uses, target_faults}

abbrev pub later_targets : {T S D P : Type 0} → Looks T S D P → Bool → List NextExpr → List (Target T)
later_targets looks several [] = []
later_targets looks several (n ∷ ns) = target looks several (shape n.expr) ∷ later_targets looks several ns

abbrev pub later_uses : {T S D P : Type 0} → Looks T S D P → List NextExpr → List (Use D P)
later_uses looks [] = []
later_uses looks (n ∷ ns) = target_uses looks (shape n.expr) ++ later_uses looks ns

abbrev pub later_faults : {T S D P : Type 0} → Looks T S D P → Bool → List NextExpr → List Fault
later_faults looks several [] = []
later_faults looks several (n ∷ ns) = target_faults looks several (shape n.expr) ++ later_faults looks several ns

abbrev pub later_idents : List NextIdent → List Ident
later_idents [] = []
later_idents (n ∷ ns) = n.ident ∷ later_idents ns
