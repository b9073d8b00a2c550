use Rattle.std.proofs.Common.{◌≡◌, ◌++◌, drop}
use Rattle.go_recovery_core.specs.standin.Outlines.{parts_from}
use Rattle.go_recovery_core.proofs.standin.outline.parts_from.Given as goal

abbrev pub invariant-loop-at : goal.invariant-loop-at
invariant-loop-at l = l.parts.items ++ parts_from (drop l.at l.starts) l.end ≡ parts_from l.starts l.end
