use Rattle.std.proofs.Common.{◌≡◌, ◌++◌, drop}
use Rattle.go_digraph_core.specs.needs.Needs.{edges_at}
use Rattle.go_digraph_core.proofs.needs.table.add_edges.Given as goal

abbrev pub invariant-loop-to : goal.invariant-loop-to
invariant-loop-to l = l.edges.items ++ edges_at l.from (drop l.to-index l.row) ≡ l.initial.edges.items ++ edges_at l.from l.row
