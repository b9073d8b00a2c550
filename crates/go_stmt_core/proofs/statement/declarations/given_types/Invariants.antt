use Rattle.std.proofs.Common.{◌≡◌, ◌++◌, map, drop}
use Rattle.go_stmt_core.specs.statement.Declarations.{given_type}
use Rattle.go_stmt_core.proofs.statement.declarations.given_types.Given as goal

abbrev pub invariant-loop-argument : goal.invariant-loop-argument
invariant-loop-argument g l =
    let rules = g.E.TypeLooks.types l.env in
    l.all.items ++ map (given_type rules) (drop l.argument-index l.given) ≡ map (given_type rules) l.given
