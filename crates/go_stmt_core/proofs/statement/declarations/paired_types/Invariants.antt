use Rattle.std.proofs.Common.{◌≡◌, ◌++◌, drop}
use Rattle.go_stmt_core.specs.statement.Declarations.{paired_types}
use Rattle.go_stmt_core.proofs.statement.declarations.paired_types.Given as goal

abbrev pub invariant-loop-at : goal.invariant-loop-at
invariant-loop-at g l =
    let rules = g.E.TypeLooks.types l.env in
    l.all.items ++ paired_types rules (drop l.at l.targets) (drop l.at l.given) ≡ paired_types rules l.targets l.given
