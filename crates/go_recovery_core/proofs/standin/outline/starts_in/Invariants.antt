use Rattle.std.proofs.Common.{◌≡◌, ◌++◌, drop, true}
use Rattle.go_recovery_core.specs.declared.standin.outline.Lexical.TheVariants.{Code}
use Rattle.go_recovery_core.specs.standin.Outlines.{starts_from}
use Rattle.go_recovery_core.proofs.standin.outline.starts_in.Given as goal

abbrev pub invariant-loop-at : goal.invariant-loop-at
invariant-loop-at l = l.starts.items ++ starts_from l.state l.first l.at (drop l.at l.bytes) ≡ starts_from Code true 0 l.bytes
