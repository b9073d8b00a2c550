use Rattle.std.proofs.Common.{◌≡◌, ◌≤◌, ◌+◌, drop}
use Rattle.go_folder_core.specs.mirrors.Counting.{at, position_from}
use Rattle.go_folder_core.proofs.places.position_from.Given as goal

abbrev pub invariant-loop-byte : goal.invariant-loop-byte
invariant-loop-byte l = record {
  place : position_from (at l.line l.column) (drop l.byte-index (drop l.counted l.bytes)) ≡ position_from l.fn.at (drop l.counted l.bytes);
  line : l.line ≤ 1 + (l.counted + l.byte-index);
  column : l.column ≤ 1 + (l.counted + l.byte-index);
}
