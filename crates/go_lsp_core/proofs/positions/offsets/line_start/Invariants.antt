use Rattle.std.proofs.Common.{◌≡◌, ◌+◌, drop}
use Rattle.go_lsp_core.specs.positions.mirrors.Walks.{line_start}
use Rattle.go_lsp_core.proofs.positions.offsets.line_start.Given as goal

abbrev pub invariant-loop-at : goal.invariant-loop-at
invariant-loop-at l = l.at + line_start (drop l.at l.bytes) l.left ≡ line_start l.bytes l.line
