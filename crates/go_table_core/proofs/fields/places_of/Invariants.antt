use Rattle.std.proofs.Common.{drop}
use Rattle.go_term_core.specs.Shapes.{fields_in, line_shapes}
use Rattle.go_table_core.specs.mirrors.Spots.{named_places, HasPlacesSoFar}
use Rattle.go_table_core.proofs.fields.places_of.Given as goal

abbrev pub invariant-loop-field : goal.invariant-loop-field
invariant-loop-field l = HasPlacesSoFar (named_places l.places) (fields_in (line_shapes l.all.lines.now) (drop l.field-index l.all.fields.now)) (fields_in (line_shapes l.all.lines.now) l.all.fields.now)
