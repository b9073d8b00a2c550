use Rattle.std.proofs.Common.{◌≡◌, ◌++◌, take}
use Rattle.go_graph_core.specs.mirrors.Targets.{package_edges}
use Rattle.go_graph_core.proofs.planning.add_package_edges.Given as goal

abbrev pub invariant-loop-targets : goal.invariant-loop-targets
invariant-loop-targets l = l.edges.items ≡ l.fn.edges.items ++ package_edges l.from (take l.targets-index l.files)
