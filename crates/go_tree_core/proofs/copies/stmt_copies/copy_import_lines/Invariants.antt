use Rattle.std.proofs.Common.{◌≡◌, map, take}
use Rattle.go_tree_nodes.specs.Shapes.{shape_import_line}
use Rattle.go_tree_core.specs.copies.Respelled.{spelled, line_with, import_spec_with}
use Rattle.go_tree_core.proofs.copies.stmt_copies.copy_import_lines.Given as goal

abbrev pub invariant-loop-line : goal.invariant-loop-line
invariant-loop-line l = map shape_import_line l.copies.items ≡ map (λ x. line_with (import_spec_with (spelled l.copier)) (shape_import_line x)) (take l.line-index l.line-items)
