use Rattle.std.proofs.Common.{◌≡◌, ◌≤◌, length, take}
use Rattle.go_graph_core.specs.Workspaces.{packages_inside}
use Rattle.go_session_core.proofs.queries.kept.are_inside.Given as goal

abbrev pub invariant-loop-number : goal.invariant-loop-number
invariant-loop-number l = (packages_inside l.own (take l.number l.snapshot.sources) ≡ take l.count l.packages) × (l.count ≤ length l.packages)
