use Rattle.std.proofs.Common.{◌≡◌, ◌≤◌, take, count_by, nat_lt}
use Rattle.go_reference_core.proofs.rename.names.count_before.Given as goal

abbrev pub invariant-loop-at : goal.invariant-loop-at
invariant-loop-at l = record {
  so_far : l.count ≡ count_by (λ at. nat_lt at l.offset) (take l.at-index l.offsets);
  few : l.count ≤ l.at-index;
}
