use Rattle.std.proofs.Common.{take}
use Rattle.std.specs.List.{flat_map}
use Rattle.go_tree_nodes.specs.Shapes.{shape_import_spec}
use Rattle.go_tree_core.specs.Occurrences.{import_occs}
use Rattle.go_tree_core.proofs.file_occurrences.visit_import_specs.Given as goal

abbrev pub invariant-loop-line : goal.invariant-loop-line
invariant-loop-line g l = g.V.Visitor.Sees l.fn.visitor (flat_map (λ line. import_occs (shape_import_spec line.spec)) (take l.line-index l.line-items)) l.visitor
