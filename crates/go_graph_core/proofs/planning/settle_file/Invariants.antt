use Rattle.go_graph_core.specs.mirrors.Targets.{IsSettled}
use Rattle.go_graph_core.proofs.Zips.{ZipSoFar}
use Rattle.go_graph_core.proofs.planning.settle_file.Given as goal

abbrev pub invariant-loop-target : goal.invariant-loop-target
invariant-loop-target l = ZipSoFar (IsSettled l.ranked.ranks l.from) l.fn.targets l.targets l.target-index
