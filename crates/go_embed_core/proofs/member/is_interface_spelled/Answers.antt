use Rattle.std.proofs.Common.{sym, ◌∙◌}
use Rattle.std.specs.Str.{bytes_eq}
use Rattle.go_embed_core.proofs.Counting.{any_step, any_here, any_end}
use Rattle.go_embed_core.proofs.member.is_interface_spelled.Goals as goal

pub loop-method-preserved : goal.loop-method-preserved
loop-method-preserved c = any_step (λ m. bytes_eq m.name c.args.name.now) c.args.methods.now c.loop-method.method-index c.method-item.result _ c.loop-method-test.true c.method-item.is (sym c.is_spelled_as.ensures ∙ c.if-is_spelled_as.false) c.loop-method.invariant

pub returns-then-is_spelled_as : goal.returns-then-is_spelled_as
returns-then-is_spelled_as c = any_here (λ m. bytes_eq m.name c.args.name.now) c.args.methods.now c.loop-method.method-index c.method-item.result _ c.loop-method-test.true c.method-item.is (sym c.is_spelled_as.ensures ∙ c.if-is_spelled_as.true) c.loop-method.invariant

pub returns : goal.returns
returns c = any_end (λ m. bytes_eq m.name c.args.name.now) c.args.methods.now c.loop-method.method-index _ c.loop-method-test.false c.loop-method.invariant
