use Rattle.std.proofs.Common.{◌≡◌, ◌++◌, drop, map}
use Rattle.go_tree_nodes.specs.Shapes.{top_of}
use Rattle.go_decl_core.specs.Anchors.{tops_anchors}
use Rattle.go_decl_core.proofs.anchoring.anchors.Given as goal

abbrev pub invariant-loop-top : goal.invariant-loop-top
invariant-loop-top l =
    tops_anchors (map top_of l.top-items) ≡ l.anchors.items ++ tops_anchors (map top_of (drop l.top-index l.top-items))
