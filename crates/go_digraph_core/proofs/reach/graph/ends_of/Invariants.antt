use Rattle.std.proofs.Common.{◌≡◌, length, take}
use Rattle.go_digraph_core.specs.reach.mirrors.Filling.{AreEnds}
use Rattle.go_digraph_core.proofs.reach.graph.ends_of.Given as goal

abbrev pub invariant-loop-edge : goal.invariant-loop-edge
invariant-loop-edge l = record { len : length l.rows.items ≡ l.count; rows : AreEnds (take l.edge-index l.edges) l.rows.items }
