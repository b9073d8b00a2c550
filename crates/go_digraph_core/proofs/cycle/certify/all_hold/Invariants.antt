use Rattle.std.proofs.Common.{All, take}
use Rattle.go_digraph_core.specs.cycle.mirrors.Certificate.{Holds}
use Rattle.go_digraph_core.proofs.cycle.certify.all_hold.Given as goal

abbrev pub invariant-loop-edge : goal.invariant-loop-edge
invariant-loop-edge l = All (Holds l.ranks l.roots l.out l.back) (take l.edge-index l.edges)
