use Rattle.std.proofs.Common.{◌≡◌, ◌++◌, drop}
use Rattle.go_report_core.specs.mirrors.Settling.{said_of}
use Rattle.go_report_core.proofs.settling.said_by.Given as goal

abbrev pub invariant-loop-used : goal.invariant-loop-used
invariant-loop-used g l = l.said.items ++ said_of (drop l.used-index l.uses) ≡ said_of l.uses
