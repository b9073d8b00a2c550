use Rattle.std.proofs.Common.{◌≡◌, ◌≤◌, take}
use Rattle.std.specs.Prelude.{string_bytes}
use Rattle.govisd_folders.specs.Telling.{AddsLines}
use Rattle.govisd_folders.proofs.telling.push_run.Given as goal

abbrev pub invariant-loop-place : goal.invariant-loop-place
invariant-loop-place l = record {
  begun : 1 ≤ l.place;
  lines : l.lines ≡ l.initial.lines;
  added : AddsLines l.sheet.page.now.look l.sheet.page.now.scope.package.now l.sheet.page.now.given.now l.sheet.snapshot.now.sources l.is_first (take l.place l.faults) (string_bytes l.fn.out) (string_bytes l.out);
}
