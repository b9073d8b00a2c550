use Rattle.std.proofs.Common.{map}
use Rattle.go_embed_core.proofs.Naming.{names_step, names_end}
use Rattle.go_embed_core.proofs.hidden.own_names.Goals as goal

pub loop-method-preserved : goal.loop-method-preserved
loop-method-preserved c = names_step c.args.path.now c.args.fields.now c.args.methods.now c.loop-method.method-index c.method-item.result (map (λ y. y.now) c.loop-method.names.keys) (map (λ y. y.now) c.take_name.new.names.keys) c.loop-method-test.true c.method-item.is c.in_ok-take_name.ensures c.loop-method.invariant

pub returns : goal.returns
returns c = names_end c.args.path.now c.args.fields.now c.args.methods.now c.loop-method.method-index (map (λ y. y.now) c.loop-method.names.keys) c.loop-method-test.false c.loop-method.invariant
