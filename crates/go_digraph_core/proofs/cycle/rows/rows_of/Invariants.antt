use Rattle.std.proofs.Common.{◌≡◌, length}
use Rattle.go_digraph_core.proofs.CyclePlaces.{AreRowsTo}
use Rattle.go_digraph_core.proofs.cycle.rows.rows_of.Given as goal

abbrev pub invariant-loop-place : goal.invariant-loop-place
invariant-loop-place l = record { len : length l.rows.items ≡ l.count; rows : AreRowsTo l.edges l.place l.rows.items }
