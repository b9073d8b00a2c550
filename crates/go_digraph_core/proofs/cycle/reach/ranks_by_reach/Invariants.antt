use Rattle.std.proofs.Common.{◌≡◌, ◌<◌, ℕ, length, get_or}
use Rattle.go_digraph_core.specs.cycle.mirrors.Search.{IsReachCount}
use Rattle.go_digraph_core.proofs.cycle.reach.ranks_by_reach.Given as goal

abbrev pub invariant-loop-start : goal.invariant-loop-start
invariant-loop-start l = record {
  counts : (v : ℕ) → v < l.start → IsReachCount l.edges l.count v (get_or l.ranks.items v 0);
  len : length l.ranks.items ≡ l.start;
}
