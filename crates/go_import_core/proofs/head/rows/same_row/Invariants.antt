use Rattle.go_import_core.proofs.HeadRowByRow.{AreRowsTo, AreThereTo}
use Rattle.go_import_core.proofs.head.rows.same_row.Given as goal

abbrev pub invariant-loop-import : goal.invariant-loop-import
invariant-loop-import l = record {
  same : AreRowsTo l.one l.other l.«package» l.file l.import;
  there : AreThereTo l.one l.«package» l.file l.import;
}
