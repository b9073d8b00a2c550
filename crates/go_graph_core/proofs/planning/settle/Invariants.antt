use Rattle.std.proofs.Common.{ℕ, Vec}
use Rattle.std.specs.declared.alloc.Global.{Global}
use Rattle.go_graph_core.specs.declared.imports.ImportOutcome.{ImportOutcome}
use Rattle.go_graph_core.specs.mirrors.Targets.{AreSettled}
use Rattle.go_graph_core.proofs.Zips.{NumberedSoFar}
use Rattle.go_graph_core.proofs.planning.settle.Given as goal

abbrev pub invariant-loop-from : goal.invariant-loop-from
invariant-loop-from l = NumberedSoFar (λ (k : ℕ) (ts os : Vec (Vec ImportOutcome Global) Global). AreSettled l.ranked.ranks k ts.items os.items) l.fn.packages l.packages l.from
