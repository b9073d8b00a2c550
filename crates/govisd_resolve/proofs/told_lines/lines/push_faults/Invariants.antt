use Rattle.std.proofs.Common.{◌≡◌, ◌++◌, flat_map, take}
use Rattle.govisd_resolve.specs.told_lines.Lines.{fault_line}
use Rattle.govisd_resolve.proofs.told_lines.lines.push_faults.Given as goal

abbrev pub invariant-loop-fault : goal.invariant-loop-fault
invariant-loop-fault l = l.out.items ≡ l.initial.out.items ++ flat_map fault_line (take l.fault-index l.faults)
