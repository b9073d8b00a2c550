use Rattle.std.proofs.Common.{◌≡◌, ◌<◌, ℕ, false, true, [], get_or}
use Rattle.go_digraph_core.specs.chain.mirrors.Known.{Known}
use Rattle.go_digraph_core.proofs.chain.chain_ends.Given as goal

abbrev pub invariant-loop-start : goal.invariant-loop-start
invariant-loop-start l = record {
  known : Known l.next l.marks.items l.ends.items l.way.items 0;
  none : l.way.items ≡ [];
  marked : (i : ℕ) → i < l.start → get_or l.marks.items i false ≡ true;
}
