use Rattle.std.proofs.Common.{◌≤◌}
use Rattle.go_branch_core.proofs.halves.cut_of.Given as goal

abbrev pub invariant-loop-number : goal.invariant-loop-number
invariant-loop-number l = l.cut.before ≤ l.number
