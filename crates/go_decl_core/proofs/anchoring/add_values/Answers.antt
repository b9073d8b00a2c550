use Rattle.go_decl_core.proofs.AnchorLemmas.{value_step}
use Rattle.go_decl_core.proofs.anchoring.add_values.Goals as goal

pub loop-line-preserved : goal.loop-line-preserved
loop-line-preserved c =
    value_step c.args.value.now.keyword.start c.deref-line-items.result.now c.loop-line.line-index c.line-item.result c.loop-line-test.true c.line-item.is c.args.anchors.now.items c.loop-line.anchors.items c.add_names-in-loop-line.new.anchors.items
    c.loop-line.invariant c.in_ok-add_names-in-Group.ensures
