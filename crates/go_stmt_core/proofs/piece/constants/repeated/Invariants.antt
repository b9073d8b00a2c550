use Rattle.std.proofs.Common.{◌≡◌}
use Rattle.std.specs.Prelude.{replicate}
use Rattle.go_expr_core.specs.denote_core.declared.things.Argument.TheVariants as arguments
use Rattle.go_stmt_core.specs.piece.Specifications.{constant_value}
use Rattle.go_stmt_core.proofs.piece.constants.repeated.Given as goal

abbrev pub invariant-loop : goal.invariant-loop
invariant-loop g l = l.all.items ≡ replicate l.counter (constant_value (g.E.TypeLooks.types l.env) l.written arguments.Refused)
