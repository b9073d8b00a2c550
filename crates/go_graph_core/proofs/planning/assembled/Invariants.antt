use Rattle.std.proofs.Common.{◌≡◌, take}
use Rattle.std.specs.List.{filter}
use Rattle.go_graph_core.specs.mirrors.Targets.{is_assembled}
use Rattle.go_graph_core.proofs.planning.assembled.Given as goal

abbrev pub invariant-loop-number : goal.invariant-loop-number
invariant-loop-number l = l.order.items ≡ filter (is_assembled l.standings) (take l.number-index l.numbers)
