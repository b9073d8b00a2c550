use Rattle.std.proofs.Common.{◌≡◌, ◌++◌, drop, map}
use Rattle.go_tree_nodes.specs.Shapes.{shape_value_line}
use Rattle.go_code_core.specs.fragments.Slots.{value_lines_slots}
use Rattle.go_code_core.proofs.fragments.slots.add_decl.Given as goal

abbrev pub invariant-loop-line : goal.invariant-loop-line
invariant-loop-line l =
    l.fn.slots.items ++ value_lines_slots l.decl.kind (map shape_value_line l.line-items) ≡ l.slots.items ++ value_lines_slots l.decl.kind (map shape_value_line (drop l.line-index l.line-items))
