use Rattle.std.proofs.Common.{take}
use Rattle.go_graph_core.specs.mirrors.Targets.{ArePackageTargets}
use Rattle.go_graph_core.proofs.imports.package_targets.Given as goal

abbrev pub invariant-loop-file : goal.invariant-loop-file
invariant-loop-file l = ArePackageTargets l.fn.packages (l.fn.source.0, take l.file-index l.file-items) l.targets.items
