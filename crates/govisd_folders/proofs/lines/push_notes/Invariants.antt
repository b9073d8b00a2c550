use Rattle.std.specs.Prelude.{string_bytes}
use Rattle.govisd_folders.specs.Telling.{AddsNotes}
use Rattle.govisd_folders.proofs.lines.push_notes.Given as goal

abbrev pub invariant-loop-note : goal.invariant-loop-note
invariant-loop-note l = AddsNotes (string_bytes l.fn.out) (string_bytes l.out)
