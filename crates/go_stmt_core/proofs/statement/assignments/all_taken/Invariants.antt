use Rattle.std.proofs.Common.{◌≡◌, drop}
use Rattle.go_stmt_core.specs.statement.Assignments.{takes_argument, all_pairs}
use Rattle.go_stmt_core.proofs.statement.assignments.all_taken.Given as goal

abbrev pub invariant-loop-at : goal.invariant-loop-at
invariant-loop-at g l =
    let rules = g.E.TypeLooks.types l.env in
    all_pairs (takes_argument rules) (drop l.at l.targets) (drop l.at l.given) ≡ all_pairs (takes_argument rules) l.targets l.given
