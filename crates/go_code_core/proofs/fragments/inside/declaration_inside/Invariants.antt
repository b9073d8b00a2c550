use Rattle.std.proofs.Common.{◌≡◌, drop, map}
use Rattle.go_tree_nodes.specs.Shapes.{shape_value_line}
use Rattle.go_code_core.specs.fragments.Inside.{value_lines_inside}
use Rattle.go_code_core.specs.fragments.Names.{frame_of}
use Rattle.go_code_core.proofs.fragments.inside.declaration_inside.Given as goal

abbrev pub invariant-loop-line : goal.invariant-loop-line
invariant-loop-line g l =
    value_lines_inside (frame_of (g.N.CodeNames.looks l.frame.names.now) l.frame.slots.now) l.decl.kind (map shape_value_line l.line-items) ≡ value_lines_inside (frame_of (g.N.CodeNames.looks l.frame.names.now) l.frame.slots.now) l.decl.kind (map shape_value_line (drop l.line-index l.line-items))
