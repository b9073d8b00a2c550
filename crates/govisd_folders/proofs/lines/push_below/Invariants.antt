use Rattle.std.specs.Prelude.{string_bytes}
use Rattle.govisd_folders.specs.Telling.{AddsBelow}
use Rattle.govisd_folders.proofs.lines.push_below.Given as goal

abbrev pub invariant-loop-line : goal.invariant-loop-line
invariant-loop-line l = AddsBelow (string_bytes l.fn.out) (string_bytes l.out)
