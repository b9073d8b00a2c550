use Rattle.std.proofs.Common.{◌≡◌, ◌++◌, drop, map}
use Rattle.std.specs.Prelude.{None}
use Rattle.go_term_core.specs.Shapes.{shape, fields_in, line_shapes, method_shapes, terms_in}
use Rattle.go_embed_core.specs.Faults.{fields_faults, methods_faults, terms_faults}
use Rattle.go_embed_core.proofs.faults.+faults.Given as goal

abbrev pub invariant-add_fields-loop-field : goal.invariant-add_fields-loop-field
invariant-add_fields-loop-field g l = l.faults.items ++ fields_faults (g.K.Kinds.kinds l.kinds) l.passed l.last (fields_in (line_shapes l.lines.items) (drop l.field-index l.field-items)) ≡ l.fn.faults.items ++ fields_faults (g.K.Kinds.kinds l.kinds) l.fn.passed None (fields_in (line_shapes l.lines.items) l.field-items)

abbrev pub invariant-add_methods-loop-method : goal.invariant-add_methods-loop-method
invariant-add_methods-loop-method g l = l.faults.items ++ methods_faults (g.K.Kinds.kinds l.kinds) l.passed (method_shapes (drop l.method-index l.method-items)) ≡ l.fn.faults.items ++ methods_faults (g.K.Kinds.kinds l.kinds) l.fn.passed (method_shapes l.method-items)

abbrev pub invariant-add_terms-loop-number : goal.invariant-add_terms-loop-number
invariant-add_terms-loop-number g l = l.faults.items ++ terms_faults (g.K.Kinds.kinds l.kinds) l.last (terms_in (map shape l.terms.items) (drop l.number-index l.number-items)) ≡ l.fn.faults.items ++ terms_faults (g.K.Kinds.kinds l.kinds) None (terms_in (map shape l.terms.items) l.number-items)
