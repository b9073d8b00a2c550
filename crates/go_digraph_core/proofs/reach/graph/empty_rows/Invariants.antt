use Rattle.std.proofs.Common.{◌≡◌, length}
use Rattle.go_digraph_core.specs.cycle.mirrors.Search.{AreEmpty}
use Rattle.go_digraph_core.proofs.reach.graph.empty_rows.Given as goal

abbrev pub invariant-loop : goal.invariant-loop
invariant-loop l = record { len : length l.rows.items ≡ l.counter; empty : AreEmpty l.rows.items }
