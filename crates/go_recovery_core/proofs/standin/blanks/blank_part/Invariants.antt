use Rattle.std.proofs.Common.{◌≡◌, ◌≤◌, length, max, min}
use Rattle.go_recovery_core.proofs.StandinAlike.{IsBlankedUpTo}
use Rattle.go_recovery_core.proofs.standin.blanks.blank_part.Given as goal

abbrev pub invariant-loop-at : goal.invariant-loop-at
invariant-loop-at l = record {
  long : length l.bytes ≡ length l.fn.bytes;
  few : l.at ≤ max l.fn.part.start (min l.fn.part.end (length l.fn.bytes));
  done : IsBlankedUpTo l.fn.part.start l.at l.fn.bytes l.bytes;
}
