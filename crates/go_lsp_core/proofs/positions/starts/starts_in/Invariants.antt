use Rattle.std.proofs.Common.{◌≡◌, ◌++◌, drop}
use Rattle.go_lsp_core.specs.positions.mirrors.Starts.{starts_from}
use Rattle.go_lsp_core.proofs.positions.starts.starts_in.Given as goal

abbrev pub invariant-loop-at : goal.invariant-loop-at
invariant-loop-at l = l.starts.items ++ starts_from l.at (drop l.at l.bytes) ≡ starts_from 0 l.bytes
