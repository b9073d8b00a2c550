use Rattle.std.proofs.Common.{◌≡◌, take}
use Rattle.go_graph_core.proofs.workspace.Workspace.copy.Given as goal

abbrev pub invariant-loop-package : goal.invariant-loop-package
invariant-loop-package l = l.packages.items ≡ take l.package-index l.package-items
