use Rattle.std.proofs.Common.{◌≡◌, drop}
use Rattle.go_lsp_core.specs.frames.Frames.{number_in}
use Rattle.go_lsp_core.proofs.frames.heads.number_in.Given as goal

abbrev pub invariant-loop-at : goal.invariant-loop-at
invariant-loop-at l = number_in (drop l.at l.bytes) ≡ number_in l.bytes
