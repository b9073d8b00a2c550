use Rattle.go_table_core.proofs.Listing.{named_turn, named_end}
use Rattle.go_table_core.proofs.indexed.field_names.Goals as goal

pub loop-field-preserved : goal.loop-field-preserved
loop-field-preserved c =
    named_turn (λ f. f.name) c.args.fields.now c.loop-field.field-index c.field-item.result c.loop-field.names.items c.add.new.all.items c.as_str.result
    c.loop-field-test.true c.field-item.is c.as_str.ensures c.in_ok-add.ensures c.loop-field.invariant

pub returns : goal.returns
returns c = named_end (λ f. f.name) c.args.fields.now c.loop-field.field-index c.loop-field.names.items c.loop-field-test.false c.loop-field.invariant
