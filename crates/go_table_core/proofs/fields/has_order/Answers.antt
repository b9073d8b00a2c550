use Rattle.std.proofs.Common.{None, ap, ◌∙◌}
use Rattle.go_term_core.specs.Shapes.{line_shapes}
use Rattle.go_table_core.specs.mirrors.Ordered.{has_order}
use Rattle.go_table_core.proofs.fields.has_order.Goals as goal

pub returns : goal.returns
returns c = c.stand_in_order.ensures (line_shapes c.term_fields.result.lines.now) ∙ ap (has_order None) c.term_fields.ensures
