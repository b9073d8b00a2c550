use Rattle.std.proofs.Common.{◌≡◌, ◌++◌, drop, map}
use Rattle.go_tree_nodes.specs.Shapes.{shape_type_line}
use Rattle.go_decl_core.specs.Anchors.{type_lines_anchors}
use Rattle.go_decl_core.proofs.anchoring.add_types.Given as goal

abbrev pub invariant-loop-line : goal.invariant-loop-line
invariant-loop-line l =
    l.fn.anchors.items ++ type_lines_anchors l.keyword (map shape_type_line l.line-items) ≡ l.anchors.items ++ type_lines_anchors l.keyword (map shape_type_line (drop l.line-index l.line-items))
