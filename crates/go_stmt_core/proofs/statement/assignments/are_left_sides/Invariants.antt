use Rattle.std.proofs.Common.{◌≡◌, drop}
use Rattle.std.specs.List.{list_all}
use Rattle.go_stmt_core.specs.statement.Assignments.{is_left_side}
use Rattle.go_stmt_core.proofs.statement.assignments.are_left_sides.Given as goal

abbrev pub invariant-loop-target : goal.invariant-loop-target
invariant-loop-target g l = list_all is_left_side (drop l.target-index l.targets) ≡ list_all is_left_side l.targets
