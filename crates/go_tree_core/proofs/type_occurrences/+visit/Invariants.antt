use Rattle.std.proofs.Common.{take}
use Rattle.std.specs.List.{flat_map}
use Rattle.go_tree_core.proofs.OccLemmas.{field_line_occs, method_occs, param_occs}
use Rattle.go_tree_core.proofs.type_occurrences.+visit.Given as goal

abbrev pub invariant-visit_field_lines-loop-line : goal.invariant-visit_field_lines-loop-line
invariant-visit_field_lines-loop-line g l = g.V.Visitor.Sees l.fn.visitor (flat_map field_line_occs (take l.line-index l.line-items)) l.visitor

abbrev pub invariant-visit_methods-loop-method : goal.invariant-visit_methods-loop-method
invariant-visit_methods-loop-method g l = g.V.Visitor.Sees l.fn.visitor (flat_map method_occs (take l.method-index l.method-items)) l.visitor

abbrev pub invariant-visit_params-loop-param : goal.invariant-visit_params-loop-param
invariant-visit_params-loop-param g l = g.V.Visitor.Sees l.fn.visitor (flat_map param_occs (take l.param-index l.param-items)) l.visitor
