use Rattle.std.proofs.Common.{◌≡◌, drop, true}
use Rattle.go_lsp_core.specs.frames.Frames.{length_from}
use Rattle.go_lsp_core.proofs.frames.heads.content_length.Given as goal

abbrev pub invariant-loop-at : goal.invariant-loop-at
invariant-loop-at l = length_from l.starts (drop l.at l.head) ≡ length_from true l.head
