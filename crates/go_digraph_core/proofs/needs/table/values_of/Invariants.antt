use Rattle.go_digraph_core.specs.needs.Needs.{rows_of}
use Rattle.go_digraph_core.specs.needs.mirrors.Filling.{IsFilled}
use Rattle.go_digraph_core.proofs.needs.table.values_of.Given as goal

abbrev pub invariant-loop-node : goal.invariant-loop-node
invariant-loop-node g l = IsFilled g.row.S-Value.Denot (rows_of l.needs) (g.S.Needing.value l.stage) l.node-items l.node-index l.table.items
