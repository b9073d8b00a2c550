use Rattle.std.proofs.Common.{take}
use Rattle.std.specs.List.{flat_map}
use Rattle.go_tree_nodes.specs.Shapes.{shape_value_spec}
use Rattle.go_tree_core.specs.Occurrences.{value_spec_occs}
use Rattle.go_tree_core.proofs.expr_occurrences.visit_value.Given as goal

abbrev pub invariant-loop-line : goal.invariant-loop-line
invariant-loop-line g l = g.V.Visitor.Sees l.fn.visitor (flat_map (λ line. value_spec_occs (shape_value_spec line.spec)) (take l.line-index l.line-items)) l.visitor
