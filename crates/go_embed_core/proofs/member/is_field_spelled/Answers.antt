use Rattle.std.proofs.Common.{sym, ◌∙◌}
use Rattle.std.specs.Str.{bytes_eq}
use Rattle.go_embed_core.proofs.Counting.{any_step, any_here, any_end}
use Rattle.go_embed_core.proofs.member.is_field_spelled.Goals as goal

pub loop-field-preserved : goal.loop-field-preserved
loop-field-preserved c = any_step (λ m. bytes_eq m.name c.args.name.now) c.args.fields.now c.loop-field.field-index c.field-item.result _ c.loop-field-test.true c.field-item.is (sym c.is_spelled_as.ensures ∙ c.if-is_spelled_as.false) c.loop-field.invariant

pub returns-then-is_spelled_as : goal.returns-then-is_spelled_as
returns-then-is_spelled_as c = any_here (λ m. bytes_eq m.name c.args.name.now) c.args.fields.now c.loop-field.field-index c.field-item.result _ c.loop-field-test.true c.field-item.is (sym c.is_spelled_as.ensures ∙ c.if-is_spelled_as.true) c.loop-field.invariant

pub returns : goal.returns
returns c = any_end (λ m. bytes_eq m.name c.args.name.now) c.args.fields.now c.loop-field.field-index _ c.loop-field-test.false c.loop-field.invariant
