use Rattle.go_batch_core.specs.mirrors.Rows.{IsRowClearTo}
use Rattle.go_batch_core.proofs.rows.row_marked.Given as goal

abbrev pub invariant-loop-import : goal.invariant-loop-import
invariant-loop-import l = IsRowClearTo l.plan l.«package» l.file l.marks l.import
