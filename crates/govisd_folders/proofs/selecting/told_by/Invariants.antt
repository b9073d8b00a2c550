use Rattle.std.proofs.Common.{◌≡◌, ◌++◌}
use Rattle.govisd_folders.specs.Selecting.{told_by}
use Rattle.govisd_folders.proofs.selecting.told_by.Given as goal

abbrev pub invariant-loop-fault : goal.invariant-loop-fault
invariant-loop-fault l = l.told.items ++ told_by l.fn.faults l.fault-iterator.a.rest.now l.fault-iterator.b.rest.now ≡ told_by l.fn.faults l.fn.faults l.fn.causes
