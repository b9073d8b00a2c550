use Rattle.std.proofs.Common.{◌≡◌, ◌++◌, drop, map}
use Rattle.go_tree_nodes.specs.Shapes.{shape_value_line}
use Rattle.go_code_core.specs.Code.{value_lines_code}
use Rattle.go_code_core.specs.fragments.Names.{frame_of}
use Rattle.go_code_core.proofs.simples.declaration.Given as goal

abbrev pub invariant-loop-at : goal.invariant-loop-at
invariant-loop-at g l = l.code ≡ value_lines_code (frame_of (g.N.CodeNames.looks l.frame.names.now) l.frame.slots.now) l.decl.kind (map shape_value_line (drop l.at l.lines.items)) ++ l.fn.code
