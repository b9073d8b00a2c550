use Rattle.std.proofs.Common.{sym}
use Rattle.go_batch_core.proofs.Importing.{clear_end, clear_more}
use Rattle.go_batch_core.proofs.rows.row_marked.Goals as goal

pub loop-import-preserved : goal.loop-import-preserved
loop-import-preserved c =
    clear_more c.args.plan.now c.args.«package» c.args.file c.args.marks.now c.loop-import.import c.in-Some.outcome c.loop-import.invariant (sym c.in-Some.ensures) (c.is_to_marked.ensures c.if-is_to_marked.false)

pub returns-in-None : goal.returns-in-None
returns-in-None c said = clear_end c.args.plan.now c.args.«package» c.args.file c.args.marks.now c.loop-import.import c.loop-import.invariant (sym c.in-None.ensures)
