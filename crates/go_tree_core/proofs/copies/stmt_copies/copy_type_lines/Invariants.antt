use Rattle.std.proofs.Common.{◌≡◌, map, take}
use Rattle.go_tree_nodes.specs.Shapes.{shape_type_line}
use Rattle.go_tree_core.specs.copies.Respelled.{spelled, line_with, type_spec_with}
use Rattle.go_tree_core.proofs.copies.stmt_copies.copy_type_lines.Given as goal

abbrev pub invariant-loop-line : goal.invariant-loop-line
invariant-loop-line l = map shape_type_line l.copies.items ≡ map (λ x. line_with (type_spec_with (spelled l.copier)) (shape_type_line x)) (take l.line-index l.line-items)
