use Rattle.std.proofs.Common.{◌≡◌, ◌+◌, ◌-◌, ◌≤◌, drop}
use Rattle.go_lsp_core.specs.positions.Positions.{position_at, units}
use Rattle.go_lsp_core.specs.positions.mirrors.Walks.{counted_from, total}
use Rattle.go_lsp_core.proofs.positions.offsets.position_in.Given as goal

abbrev pub invariant-loop-at : goal.invariant-loop-at
invariant-loop-at l = record {
  line : l.position.line ≤ l.at;
  fits : l.position.character + total (units l.encoding) (drop l.at l.bytes) ≤ total (units l.encoding) l.bytes;
  place : counted_from l.position (position_at (units l.encoding) (drop l.at l.bytes) (l.offset - l.at)) ≡ position_at (units l.encoding) l.bytes l.offset;
}
