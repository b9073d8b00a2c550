use Rattle.std.proofs.Common.{refl, map}
use Rattle.go_type_core.specs.table_core.Shown.{member_shown}
use Rattle.go_embed_core.specs.Faults.{declared_faults}
use Rattle.go_embed_core.proofs.Noting.{declared_step, notes_end}
use Rattle.go_embed_core.proofs.faults.add_declared.Goals as goal

pub loop-method-preserved : goal.loop-method-preserved
loop-method-preserved g c = declared_step (g.K.Kinds.kinds c.args.kinds.now) c.args.path.now c.args.fields.now c.loop-method.passed c.check_declared.new.passed c.args.methods.now c.loop-method.method-index c.method-item.result c.loop-method.faults.items c.check_declared.new.faults.items c.add_signature.new.faults.items _ c.loop-method-test.true c.method-item.is c.in_ok-check_declared.ensures.names c.in_ok-check_declared.ensures.faults c.in_ok-add_signature.ensures c.loop-method.invariant

pub returns : goal.returns
returns g c = notes_end (λ l. declared_faults (g.K.Kinds.kinds c.args.kinds.now) c.args.path.now c.args.fields.now c.loop-method.passed (map member_shown l)) c.args.methods.now c.loop-method.method-index c.loop-method.faults.items _ refl c.loop-method-test.false c.loop-method.invariant
