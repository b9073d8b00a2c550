use Rattle.std.proofs.Common.{◌≡◌, ◌<◌, ◌⊎◌, false, true, not, length, get_or}
use Rattle.std.specs.List.{count_by}
use Rattle.go_digraph_core.specs.chain.mirrors.Known.{Known, Keeps}
use Rattle.go_digraph_core.proofs.chain.follow.walk.Given as goal

abbrev pub invariant-steps : goal.invariant-steps
invariant-steps l = record {
  known : Known l.next l.marks l.ends l.way.items l.stop;
  inside : l.stop < length l.next;
  keeps : Keeps l.initial.marks l.marks;
  marked : (l.stop ≡ l.start) ⊎ (get_or l.marks l.start false ≡ true);
}

abbrev pub decreases-steps : goal.decreases-steps
decreases-steps l = count_by (λ m. not m) l.marks
