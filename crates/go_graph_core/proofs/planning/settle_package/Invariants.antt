use Rattle.std.proofs.Common.{Vec}
use Rattle.std.specs.List.{AllZip}
use Rattle.std.specs.declared.alloc.Global.{Global}
use Rattle.go_graph_core.specs.declared.imports.ImportOutcome.{ImportOutcome}
use Rattle.go_graph_core.specs.mirrors.Targets.{IsSettled}
use Rattle.go_graph_core.proofs.Zips.{ZipSoFar}
use Rattle.go_graph_core.proofs.planning.settle_package.Given as goal

abbrev pub invariant-loop-targets : goal.invariant-loop-targets
invariant-loop-targets l = ZipSoFar (λ (ts os : Vec ImportOutcome Global). AllZip (IsSettled l.ranked.ranks l.from) ts.items os.items) l.fn.files l.files l.targets-index
