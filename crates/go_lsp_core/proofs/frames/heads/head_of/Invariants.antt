use Rattle.std.proofs.Common.{◌≡◌, drop}
use Rattle.go_lsp_core.specs.frames.Frames.{head_from}
use Rattle.go_lsp_core.proofs.frames.heads.head_of.Given as goal

abbrev pub invariant-loop-at : goal.invariant-loop-at
invariant-loop-at l = head_from l.at (drop l.at l.bytes) ≡ head_from 0 l.bytes
