use Rattle.go_tree_nodes.specs.Shapes.{import_of}
use Rattle.go_tree_core.specs.copies.Respelled.{spelled, import_with}
use Rattle.go_tree_core.proofs.CopiesSameTrees.{one_copied, all_copied}
use Rattle.go_tree_core.proofs.copies.stmt_copies.copy_imports.Goals as goal

pub loop-import-preserved : goal.loop-import-preserved
loop-import-preserved c = one_copied (import_with (spelled c.args.copier.now)) import_of _ _ _ _ _ _ c.loop-import-test.true c.import-item.is c.in-Ok-add.ensures c.in-Ok.ensures c.loop-import.invariant

pub returns : goal.returns
returns c = all_copied (import_with (spelled c.args.copier.now)) import_of _ _ _ _ c.deref-import-items.ensures.value c.loop-import-test.false c.loop-import.invariant
