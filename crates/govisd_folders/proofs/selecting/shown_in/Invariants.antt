use Rattle.std.proofs.Common.{◌≡◌, ◌++◌, drop}
use Rattle.govisd_folders.specs.Selecting.{shown_in}
use Rattle.govisd_folders.proofs.selecting.shown_in.Given as goal

abbrev pub invariant-loop-fault : goal.invariant-loop-fault
invariant-loop-fault l = shown_in l.is_all (l.scope.package.now, l.scope.file.now) l.workspace l.faults ≡ l.told.items ++ shown_in l.is_all (l.scope.package.now, l.scope.file.now) l.workspace (drop l.fault-index l.faults)
