use Rattle.std.proofs.Common.{take}
use Rattle.std.specs.List.{AllZip}
use Rattle.go_graph_core.specs.mirrors.Targets.{ArePackageTargets}
use Rattle.go_graph_core.proofs.imports.targets_by.Given as goal

abbrev pub invariant-loop-source : goal.invariant-loop-source
invariant-loop-source l = AllZip (λ p os. ArePackageTargets l.packages p os.items) (take l.source-index l.packages) l.targets.items
