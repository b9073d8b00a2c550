use Rattle.std.proofs.Common.{◌≡◌, ◌<◌, ◌+◌, ◌*◌, ◌^◌, max, drop}
use Rattle.go_tree_nodes.specs.Heights as heights
use Rattle.go_tree_nodes.specs.TypeShapes.{shape_type, shape_signature, shape_results, fields_of, methods_of, params_of}
use Rattle.go_parse_reader.specs.types.mirrors.EntryShapes.{field_height}
use Rattle.go_parse_reader.proofs.types.heights.+heights.Given as goal

abbrev pub invariant-lines_height-loop-line : goal.invariant-lines_height-loop-line
invariant-lines_height-loop-line l = record {
  same : heights.fields_height (fields_of l.line-items) ≡ max l.high (heights.fields_height (fields_of (drop l.line-index l.line-items)));
  low : heights.fields_height (fields_of l.line-items) < 2 ^ 31;
}

abbrev pub invariant-methods_height-loop-method : goal.invariant-methods_height-loop-method
invariant-methods_height-loop-method l = record {
  same : heights.methods_height (methods_of l.method-items) ≡ max l.high (heights.methods_height (methods_of (drop l.method-index l.method-items)));
  low : heights.methods_height (methods_of l.method-items) < 2 ^ 31;
}

abbrev pub invariant-params_height-loop-param : goal.invariant-params_height-loop-param
invariant-params_height-loop-param l = record {
  same : heights.params_height (params_of l.param-items) ≡ max l.high (heights.params_height (params_of (drop l.param-index l.param-items)));
  low : heights.params_height (params_of l.param-items) < 2 ^ 31;
}

abbrev pub decreases-type_height : goal.decreases-type_height
decreases-type_height l = 8 * heights.type_height (shape_type l.type_expr.now)

abbrev pub decreases-params_height : goal.decreases-params_height
decreases-params_height l = 8 * heights.params_height (params_of l.params.now.items) + 1

abbrev pub decreases-results_height : goal.decreases-results_height
decreases-results_height l = 8 * heights.result_height (shape_results l.results.now) + 2

abbrev pub decreases-signature_height : goal.decreases-signature_height
decreases-signature_height l = 8 * heights.signature_height (shape_signature l.signature.now) + 3

abbrev pub decreases-methods_height : goal.decreases-methods_height
decreases-methods_height l = 8 * heights.methods_height (methods_of l.methods.now.items) + 4

abbrev pub decreases-fields_height : goal.decreases-fields_height
decreases-fields_height l = 8 * field_height l.fields.now + 1

abbrev pub decreases-lines_height : goal.decreases-lines_height
decreases-lines_height l = 8 * heights.fields_height (fields_of l.lines.now.items) + 2
