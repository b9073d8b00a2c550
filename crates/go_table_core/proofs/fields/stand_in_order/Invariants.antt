use Rattle.std.proofs.Common.{◌≡◌, List, None, drop}
use Rattle.go_term_core.specs.Shapes.{Line, fields_in}
use Rattle.go_table_core.specs.mirrors.Ordered.{has_order}
use Rattle.go_table_core.proofs.fields.stand_in_order.Given as goal

abbrev pub invariant-loop-field : goal.invariant-loop-field
invariant-loop-field l = (ls : List Line) → has_order l.last (fields_in ls (drop l.field-index l.fields)) ≡ has_order None (fields_in ls l.fields)
