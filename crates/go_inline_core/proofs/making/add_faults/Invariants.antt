use Rattle.std.proofs.Common.{◌≡◌, ◌++◌, take}
use Rattle.go_inline_core.proofs.making.add_faults.Given as goal

abbrev pub invariant-loop-fault : goal.invariant-loop-fault
invariant-loop-fault l = l.faults.items ≡ l.fn.faults.items ++ take l.fault-index l.more
