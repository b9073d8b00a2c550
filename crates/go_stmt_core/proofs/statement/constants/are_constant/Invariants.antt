use Rattle.std.proofs.Common.{◌≡◌, drop}
use Rattle.std.specs.List.{list_all}
use Rattle.go_stmt_core.specs.statement.Constants.{is_constant}
use Rattle.go_stmt_core.proofs.statement.constants.are_constant.Given as goal

abbrev pub invariant-loop-argument : goal.invariant-loop-argument
invariant-loop-argument g l =
    let rules = g.E.TypeLooks.types l.env in
    list_all (is_constant rules) (drop l.argument-index l.given) ≡ list_all (is_constant rules) l.given
