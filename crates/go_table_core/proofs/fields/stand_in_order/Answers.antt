use Rattle.std.proofs.Common.{None, sym, ◌∙◌}
use Rattle.go_term_core.specs.Shapes.{fields_in}
use Rattle.go_table_core.specs.mirrors.Ordered.{has_order}
use Rattle.go_table_core.proofs.Ordering.{order_step, order_lost, order_end}
use Rattle.go_table_core.proofs.fields.stand_in_order.Goals as goal

pub loop-field-preserved : goal.loop-field-preserved
loop-field-preserved c = λ ls.
    order_step ls c.loop-field.last c.args.fields.now c.loop-field.field-index c.field-item.result (has_order None (fields_in ls c.args.fields.now))
    c.loop-field-test.true c.field-item.is (c.loop-field.invariant ls) (sym c.is_after.ensures ∙ c.if-not-is_after.false)

pub returns-then-not-is_after : goal.returns-then-not-is_after
returns-then-not-is_after c = λ ls.
    order_lost ls c.loop-field.last c.args.fields.now c.loop-field.field-index c.field-item.result (has_order None (fields_in ls c.args.fields.now))
    c.loop-field-test.true c.field-item.is (c.loop-field.invariant ls) (sym c.is_after.ensures ∙ c.if-not-is_after.true)

pub returns : goal.returns
returns c = λ ls.
    order_end ls c.loop-field.last c.args.fields.now c.loop-field.field-index (has_order None (fields_in ls c.args.fields.now)) c.loop-field-test.false (c.loop-field.invariant ls)
