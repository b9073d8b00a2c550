use Rattle.std.proofs.Common.{◌≡◌, take}
use Rattle.go_graph_core.specs.mirrors.Targets.{edges_from}
use Rattle.go_graph_core.proofs.planning.edges.Given as goal

abbrev pub invariant-loop-from : goal.invariant-loop-from
invariant-loop-from l = l.edges.items ≡ edges_from 0 (take l.from l.targets)
