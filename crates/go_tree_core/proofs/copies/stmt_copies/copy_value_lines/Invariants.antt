use Rattle.std.proofs.Common.{◌≡◌, map, take}
use Rattle.go_tree_nodes.specs.Shapes.{shape_value_line}
use Rattle.go_tree_core.specs.copies.Respelled.{spelled, line_with, value_spec_with}
use Rattle.go_tree_core.proofs.copies.stmt_copies.copy_value_lines.Given as goal

abbrev pub invariant-loop-line : goal.invariant-loop-line
invariant-loop-line l = map shape_value_line l.copies.items ≡ map (λ x. line_with (value_spec_with (spelled l.copier)) (shape_value_line x)) (take l.line-index l.line-items)
