use Rattle.std.proofs.Common.{◌≡◌, take}
use Rattle.go_graph_core.specs.Workspaces.{packages_inside}
use Rattle.go_graph_core.proofs.workspace.share_inside.Given as goal

abbrev pub invariant-loop-package : goal.invariant-loop-package
invariant-loop-package l = l.inside.items ≡ packages_inside l.own (take l.package-index l.packages)
