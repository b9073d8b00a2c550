use Rattle.std.proofs.Common.{◌≡◌, ◌+◌, drop}
use Rattle.go_lsp_core.specs.positions.Positions.{offset_at, units}
use Rattle.go_lsp_core.proofs.positions.offsets.reach.Given as goal

abbrev pub invariant-loop-at : goal.invariant-loop-at
invariant-loop-at l = l.at + offset_at (units l.encoding) (drop l.at l.bytes) 0 l.room ≡ offset_at (units l.encoding) l.bytes 0 l.character
