use Rattle.std.proofs.Common.{◌≡◌, map, take}
use Rattle.go_digraph_core.specs.cycle.Cycle.{reversed}
use Rattle.go_machine_core.proofs.link.edges.reversed_edges.Given as goal

abbrev pub invariant-loop-edge : goal.invariant-loop-edge
invariant-loop-edge l = l.back.items ≡ map reversed (take l.edge-index l.edges)
