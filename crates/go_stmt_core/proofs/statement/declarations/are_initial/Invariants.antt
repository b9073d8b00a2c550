use Rattle.std.proofs.Common.{◌≡◌, drop}
use Rattle.std.specs.List.{list_all}
use Rattle.go_stmt_core.specs.statement.Declarations.{is_initial}
use Rattle.go_stmt_core.proofs.statement.declarations.are_initial.Given as goal

abbrev pub invariant-loop-argument : goal.invariant-loop-argument
invariant-loop-argument g l = list_all is_initial (drop l.argument-index l.given) ≡ list_all is_initial l.given
