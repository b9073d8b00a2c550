use Rattle.std.proofs.Common.{◌≡◌, length, take}
use Rattle.go_digraph_core.specs.reach.mirrors.Filling.{IsUnion}
use Rattle.go_digraph_core.proofs.reach.graph.union_of.Given as goal

abbrev pub invariant-loop-end : goal.invariant-loop-end
invariant-loop-end l = record { bound : l.set.bound ≡ length l.sets; members : IsUnion (take l.end-index l.ends) l.sets l.set.members }
