use Rattle.std.proofs.Common.{◌≡◌}
use Rattle.go_term_core.specs.Shapes.{shape}
use Rattle.go_handle_core.specs.Stars.{starred}
use Rattle.go_declared_core.proofs.holding.under_stars.Given as goal

abbrev pub invariant-loop-star : goal.invariant-loop-star
invariant-loop-star l = shape l.starred ≡ starred l._star (shape l.fn.term)
