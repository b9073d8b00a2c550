use Rattle.std.proofs.Common.{◌≡◌, ◌++◌, drop}
use Rattle.go_digraph_core.specs.needs.Needs.{rows_of}
use Rattle.go_value_core.specs.mirrors.Flags.{flags_from}
use Rattle.go_value_core.proofs.back.own_ranks.Given as goal

abbrev pub invariant-loop-node : goal.invariant-loop-node
invariant-loop-node l = l.flags.items ++ flags_from l.ranks l.node (rows_of (drop l.node l.needs)) ≡ flags_from l.ranks 0 (rows_of l.needs)
