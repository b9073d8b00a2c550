use Rattle.std.proofs.Common.{◌≡◌, ◌≤◌, ◌+◌, drop}
use Rattle.go_lsp_core.specs.frames.Frames.{digits, most_length}
use Rattle.go_lsp_core.proofs.frames.heads.digits.Given as goal

abbrev pub invariant-loop-at : goal.invariant-loop-at
invariant-loop-at l = record { small : l.number ≤ most_length + 1; rest : digits l.number (drop l.at l.bytes) ≡ digits 0 l.bytes }
