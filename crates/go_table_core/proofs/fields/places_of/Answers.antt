use Rattle.go_term_core.specs.Shapes.{fields_in, line_shapes}
use Rattle.go_table_core.specs.mirrors.Spots.{named_places}
use Rattle.go_table_core.proofs.Spelled.{places_step}
use Rattle.go_table_core.proofs.fields.places_of.Goals as goal

pub loop-field-preserved : goal.loop-field-preserved
loop-field-preserved c =
    let ls = line_shapes c.args.all.lines.now in
    places_step ls (named_places c.loop-field.places) (named_places c.add_field.new.places) c.args.all.fields.now c.loop-field.field-index c.field-item.result (fields_in ls c.args.all.fields.now)
    c.loop-field-test.true c.field-item.is c.loop-field.invariant c.in_ok-add_field.ensures
