use Rattle.std.proofs.Common.{◌≡◌, ◌++◌, drop}
use Rattle.std.specs.List.{flat_map}
use Rattle.go_machine_core.specs.link.Reaching.{edge_if}
use Rattle.go_machine_core.proofs.link.edges.add_row.Given as goal

abbrev pub invariant-loop-end : goal.invariant-loop-end
invariant-loop-end l = l.fn.edges.items ++ flat_map (edge_if l.from) l.row ≡ l.edges.items ++ flat_map (edge_if l.from) (drop l.end-index l.row)
