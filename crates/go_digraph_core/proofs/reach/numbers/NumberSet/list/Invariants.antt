use Rattle.std.proofs.Common.{◌≡◌}
use Rattle.go_digraph_core.specs.reach.mirrors.Words.{has_bit}
use Rattle.go_digraph_core.proofs.ReachMembers.{kept}
use Rattle.go_digraph_core.proofs.reach.numbers.NumberSet.list.Given as goal

abbrev pub invariant-loop-number : goal.invariant-loop-number
invariant-loop-number l = l.numbers.items ≡ kept (has_bit l.self-inside.words.items) l.number
