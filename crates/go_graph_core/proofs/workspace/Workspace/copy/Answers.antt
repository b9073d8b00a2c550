use Rattle.go_graph_core.proofs.Zips.{copied_more}
use Rattle.go_graph_core.proofs.workspace.Workspace.copy.Goals as goal

pub loop-package-preserved : goal.loop-package-preserved
loop-package-preserved c = copied_more c.deref-package-items.result.now c.loop-package.package-index c.package-item.result c.in_ok-share.field-0 c.loop-package.packages.items c.add.new.all.items c.loop-package-test.true c.package-item.is c.loop-package.invariant c.in_ok-share.ensures c.in_ok-add.ensures
