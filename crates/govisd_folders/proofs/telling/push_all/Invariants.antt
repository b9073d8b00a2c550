use Rattle.std.proofs.Common.{◌-◌, ◌≤◌, length, take, true}
use Rattle.std.specs.Prelude.{string_bytes}
use Rattle.govisd_folders.specs.Telling.{AddsLines}
use Rattle.govisd_folders.proofs.telling.push_all.Given as goal

abbrev pub invariant-turns : goal.invariant-turns
invariant-turns l = record {
  within : l.told ≤ length l.faults;
  added : AddsLines l.page.look l.page.scope.package.now l.page.given.now l.snapshot.sources true (take l.told l.faults) (string_bytes l.initial.out) (string_bytes l.out);
}

abbrev pub decreases-turns : goal.decreases-turns
decreases-turns l = length l.faults - l.told
