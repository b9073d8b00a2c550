use Rattle.std.proofs.Common.{take}
use Rattle.go_term_core.specs.Shapes.{line_shapes}
use Rattle.go_type_core.proofs.OnceEach.{FieldsSoFar}
use Rattle.go_type_core.proofs.looped.+uses.Given as goal

abbrev pub invariant-push_fields-loop-field : goal.invariant-push_fields-loop-field
invariant-push_fields-loop-field l = FieldsSoFar l.keys l.from (line_shapes l.lines.items) l.fn.edges.items (take l.field-index l.field-items) l.edges.items l.met
