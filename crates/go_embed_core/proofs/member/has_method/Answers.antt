use Rattle.std.proofs.Common.{ap, sym, ◌∙◌}
use Rattle.go_type_core.specs.table_core.Entries.{same_id}
use Rattle.go_embed_core.proofs.Counting.{any_step, any_here, any_end, method_had}
use Rattle.go_embed_core.proofs.member.has_method.Goals as goal

pub loop-method-init : goal.loop-method-init
loop-method-init c = method_had c.args.path.now c.args.name.now c.args.from.now c.args.methods.now

pub loop-method-preserved : goal.loop-method-preserved
loop-method-preserved c = any_step (λ m. same_id m.name c.args.path.now c.args.name.now c.args.from.now) c.args.methods.now c.loop-method.method-index c.method-item.result _ c.loop-method-test.true c.method-item.is (sym (c.is_same_id.ensures ∙ ap (λ n. same_id n c.args.path.now c.args.name.now c.args.from.now) c.as_str.ensures) ∙ c.if-is_same_id.false) c.loop-method.invariant

pub returns-then-is_same_id : goal.returns-then-is_same_id
returns-then-is_same_id c = any_here (λ m. same_id m.name c.args.path.now c.args.name.now c.args.from.now) c.args.methods.now c.loop-method.method-index c.method-item.result _ c.loop-method-test.true c.method-item.is (sym (c.is_same_id.ensures ∙ ap (λ n. same_id n c.args.path.now c.args.name.now c.args.from.now) c.as_str.ensures) ∙ c.if-is_same_id.true) c.loop-method.invariant

pub returns : goal.returns
returns c = any_end (λ m. same_id m.name c.args.path.now c.args.name.now c.args.from.now) c.args.methods.now c.loop-method.method-index _ c.loop-method-test.false c.loop-method.invariant
