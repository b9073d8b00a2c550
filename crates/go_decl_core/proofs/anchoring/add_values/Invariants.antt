use Rattle.std.proofs.Common.{◌≡◌, ◌++◌, drop, map}
use Rattle.go_tree_nodes.specs.Shapes.{shape_value_line}
use Rattle.go_decl_core.specs.Anchors.{value_lines_anchors}
use Rattle.go_decl_core.proofs.anchoring.add_values.Given as goal

abbrev pub invariant-loop-line : goal.invariant-loop-line
invariant-loop-line l =
    l.fn.anchors.items ++ value_lines_anchors l.keyword (map shape_value_line l.line-items) ≡ l.anchors.items ++ value_lines_anchors l.keyword (map shape_value_line (drop l.line-index l.line-items))
