use Rattle.std.proofs.Common.{take}
use Rattle.std.specs.List.{flat_map}
use Rattle.go_tree_nodes.specs.Shapes.{shape_type_spec}
use Rattle.go_tree_core.specs.Occurrences.{type_spec_occs}
use Rattle.go_tree_core.proofs.expr_occurrences.visit_type_decl.Given as goal

abbrev pub invariant-loop-line : goal.invariant-loop-line
invariant-loop-line g l = g.V.Visitor.Sees l.fn.visitor (flat_map (λ line. type_spec_occs (shape_type_spec line.spec)) (take l.line-index l.line-items)) l.visitor
