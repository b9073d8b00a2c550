use Rattle.std.proofs.Common.{◌≡◌, ◌++◌, drop}
use Rattle.go_digraph_core.specs.needs.Needs.{rows_of, edges_from}
use Rattle.go_digraph_core.proofs.needs.table.edges_of.Given as goal

abbrev pub invariant-loop-from : goal.invariant-loop-from
invariant-loop-from l = l.edges.items ++ edges_from l.from (rows_of (drop l.from l.needs)) ≡ edges_from 0 (rows_of l.needs)
