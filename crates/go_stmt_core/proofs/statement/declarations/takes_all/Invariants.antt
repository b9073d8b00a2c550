use Rattle.std.proofs.Common.{◌≡◌, drop}
use Rattle.std.specs.List.{list_all}
use Rattle.go_stmt_core.specs.statement.Assignments.{takes_argument}
use Rattle.go_stmt_core.proofs.statement.declarations.takes_all.Given as goal

abbrev pub invariant-loop-argument : goal.invariant-loop-argument
invariant-loop-argument g l =
    let rules = g.E.TypeLooks.types l.env in
    list_all (takes_argument rules l.target) (drop l.argument-index l.given) ≡ list_all (takes_argument rules l.target) l.given
