use Rattle.std.proofs.Common.{◌≡◌, length}
use Rattle.std.specs.List.{concat}
use Rattle.go_constant_core.proofs.left.in_pieces.Given as goal

abbrev pub invariant-turns : goal.invariant-turns
invariant-turns l = concat l.rest ≡ concat l.pieces

abbrev pub decreases-turns : goal.decreases-turns
decreases-turns l = length l.rest
