use Rattle.std.proofs.Common.{◌≡◌, take}
use Rattle.go_term_core.specs.Shapes.{method_shapes}
use Rattle.go_typexpr_core.specs.written.Written.{in_file, fields_of_tree, methods_of_tree, params_of_tree}
use Rattle.go_typexpr_core.specs.written.mirrors.Adding.{AreWritten, AreParams, lines_of, method_lines_of, params_in}
use Rattle.go_typexpr_core.proofs.written.terms.+written.Given as goal

abbrev pub invariant-write_fields-loop-line : goal.invariant-write_fields-loop-line
invariant-write_fields-loop-line g l = AreWritten (fields_of_tree (g.N.TypeNames.meaning l.fn.names) (in_file l.fn.at) (lines_of (take l.line-index l.line-items))) l.body

abbrev pub invariant-write_methods-loop-line : goal.invariant-write_methods-loop-line
invariant-write_methods-loop-line g l = method_shapes l.methods.items ≡ methods_of_tree (g.N.TypeNames.meaning l.fn.names) (in_file l.fn.at) (method_lines_of (take l.line-index l.line-items))

abbrev pub invariant-write_params-loop-param : goal.invariant-write_params-loop-param
invariant-write_params-loop-param g l = AreParams (params_of_tree (g.N.TypeNames.meaning l.fn.names) (in_file l.fn.at) (params_in (take l.param-index l.param-items))) l.params
