use Rattle.std.proofs.Common.{◌≡◌, ◌++◌, drop}
use Rattle.govisd_folders.specs.Selecting.{told_in}
use Rattle.govisd_folders.proofs.selecting.told_in.Given as goal

abbrev pub invariant-loop-fault : goal.invariant-loop-fault
invariant-loop-fault l = told_in (l.scope.package.now, l.scope.file.now) l.workspace l.faults ≡ l.told.items ++ told_in (l.scope.package.now, l.scope.file.now) l.workspace (drop l.fault-index l.faults)
