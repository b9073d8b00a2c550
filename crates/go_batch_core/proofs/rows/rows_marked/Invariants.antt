use Rattle.go_batch_core.specs.mirrors.Rows.{AreRowsClear}
use Rattle.go_batch_core.proofs.rows.rows_marked.Given as goal

abbrev pub invariant-loop-file : goal.invariant-loop-file
invariant-loop-file l = AreRowsClear l.plan l.«package» l.marks l.file
