use Rattle.std.proofs.Common.{◌≡◌, drop}
use Rattle.go_stmt_core.specs.statement.Assignments.{all_pairs}
use Rattle.go_stmt_core.specs.statement.Returns.{returned}
use Rattle.go_stmt_core.proofs.statement.returns.all_returned.Given as goal

abbrev pub invariant-loop-at : goal.invariant-loop-at
invariant-loop-at g l =
    let rules = g.E.TypeLooks.types l.env in
    all_pairs (returned rules) (drop l.at l.results) (drop l.at l.given) ≡ all_pairs (returned rules) l.results l.given
