use Rattle.std.proofs.Common.{ℕ, ◌<◌}
use Rattle.go_import_core.specs.head.Rows.{HaveSameRow}
use Rattle.go_import_core.proofs.head.rows.same_rows.Given as goal

abbrev pub invariant-loop-file : goal.invariant-loop-file
invariant-loop-file l = (f : ℕ) → f < l.file → HaveSameRow l.one l.other l.«package» f
