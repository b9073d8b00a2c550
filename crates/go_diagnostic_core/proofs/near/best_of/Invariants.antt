use Rattle.std.proofs.Common.{map, take}
use Rattle.std.specs.Prelude.{string_bytes}
use Rattle.go_diagnostic_core.specs.Near.{IsBest}
use Rattle.go_diagnostic_core.specs.mirrors.Nears.{near_shown}
use Rattle.go_diagnostic_core.proofs.near.best_of.Given as goal

abbrev pub invariant-loop-name : goal.invariant-loop-name
invariant-loop-name l = IsBest l.spelled (map string_bytes (take l.name-index l.names)) (near_shown l.best)
