use Rattle.std.proofs.Common.{◌≡◌, ◌++◌, take}
use Rattle.std.specs.List.{flat_map}
use Rattle.go_graph_core.specs.mirrors.Targets.{edge_of}
use Rattle.go_graph_core.proofs.planning.add_edges.Given as goal

abbrev pub invariant-loop-target : goal.invariant-loop-target
invariant-loop-target l = l.edges.items ≡ l.fn.edges.items ++ flat_map (edge_of l.from) (take l.target-index l.targets)
