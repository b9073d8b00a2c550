use Rattle.std.proofs.Common.{refl, ◌∷◌, []}
use Rattle.go_tree_nodes.specs.TypeShapes.{shape_idents}
use Rattle.go_decl_core.specs.Anchors.{named_anchors}
use Rattle.go_decl_core.proofs.AnchorLemmas.{all_anchors, anchors_more, ended}
use Rattle.go_decl_core.proofs.anchoring.add_names.Goals as goal

pub returns : goal.returns
returns c =
    let xs = c.args.names.now in
    ended (anchors_more c.args.anchor) refl c.deref-next-items.result.now xs.more.items c.loop-next.next-index c.deref-next-items.ensures.value c.loop-next-test.false
    (c.args.anchor ∷ []) c.args.anchors.now.items c.add.new.all.items c.loop-next.anchors.items (named_anchors c.args.anchor (shape_idents xs)) c.in_ok-add.ensures c.loop-next.invariant (all_anchors c.args.anchor xs.first xs.more.items)
