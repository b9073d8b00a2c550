use Rattle.std.proofs.Common.{◌≡◌, length}
use Rattle.std.specs.Ordering.{nat_cmp}
use Rattle.std.specs.Cmp.Lexicographic.{slice_cmp}
use Rattle.go_constant_core.specs.Texts.{IsFilled, bytes_left}
use Rattle.go_constant_core.proofs.left.compared.Given as goal

abbrev pub invariant-turns : goal.invariant-turns
invariant-turns l = record {
  same : slice_cmp nat_cmp (bytes_left l.x) (bytes_left l.y) ≡ slice_cmp nat_cmp (bytes_left l.fn.a) (bytes_left l.fn.b);
  one : IsFilled l.x;
  other : IsFilled l.y;
}

abbrev pub decreases-turns : goal.decreases-turns
decreases-turns l = length (bytes_left l.x)
