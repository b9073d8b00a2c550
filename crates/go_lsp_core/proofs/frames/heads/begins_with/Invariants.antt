use Rattle.std.proofs.Common.{◌≡◌, drop}
use Rattle.go_lsp_core.specs.frames.Frames.{begins_with}
use Rattle.go_lsp_core.proofs.frames.heads.begins_with.Given as goal

abbrev pub invariant-loop-at : goal.invariant-loop-at
invariant-loop-at l = begins_with (drop l.at l.name) (drop l.at l.bytes) ≡ begins_with l.name l.bytes
