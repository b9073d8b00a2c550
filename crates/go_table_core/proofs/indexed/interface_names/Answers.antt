use Rattle.go_table_core.proofs.Listing.{named_turn, named_end}
use Rattle.go_table_core.proofs.indexed.interface_names.Goals as goal

pub loop-method-preserved : goal.loop-method-preserved
loop-method-preserved c =
    named_turn (λ m. m.name) c.args.methods.now c.loop-method.method-index c.method-item.result c.loop-method.names.items c.add.new.all.items c.as_str.result
    c.loop-method-test.true c.method-item.is c.as_str.ensures c.in_ok-add.ensures c.loop-method.invariant

pub returns : goal.returns
returns c = named_end (λ m. m.name) c.args.methods.now c.loop-method.method-index c.loop-method.names.items c.loop-method-test.false c.loop-method.invariant
