use Rattle.std.proofs.Common.{◌≡◌, drop}
use Rattle.go_tree_nodes.specs.Shapes.{lines_of}
use Rattle.go_branch_core.specs.Quiet.{are_quiet}
use Rattle.go_branch_core.proofs.halves.are_quiet.Given as goal

abbrev pub invariant-loop-line : goal.invariant-loop-line
invariant-loop-line l = are_quiet (lines_of l.lines) ≡ are_quiet (lines_of (drop l.line-index l.lines))
