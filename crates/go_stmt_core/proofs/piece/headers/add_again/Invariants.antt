use Rattle.std.proofs.Common.{◌≡◌, ◌++◌}
use Rattle.std.specs.Prelude.{replicate}
use Rattle.go_stmt_core.proofs.piece.headers.add_again.Given as goal

abbrev pub invariant-loop : goal.invariant-loop
invariant-loop g l = l.types.items ≡ l.fn.types.items ++ replicate l.counter l.t
