use Rattle.std.proofs.Common.{ap}
use Rattle.go_tree_nodes.specs.Shapes.{top_of}
use Rattle.go_tree_core.specs.copies.Respelled.{spelled, top_with}
use Rattle.go_tree_core.proofs.CopiesSameTrees.{one_copied, all_copied, top_tree}
use Rattle.go_tree_core.proofs.copies.stmt_copies.copy_tops.Goals as goal

pub loop-top-preserved : goal.loop-top-preserved
loop-top-preserved c = one_copied (top_with (spelled c.args.copier.now)) top_of _ _ _ _ _ _ c.loop-top-test.true c.top-item.is c.in-Ok-add.ensures (ap (top_tree c.top-item.result.semicolon) c.in-Ok.ensures) c.loop-top.invariant

pub returns : goal.returns
returns c = all_copied (top_with (spelled c.args.copier.now)) top_of _ _ _ _ c.deref-top-items.ensures.value c.loop-top-test.false c.loop-top.invariant
