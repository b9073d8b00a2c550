use Rattle.go_typexpr_core.specs.written.Written.{in_file}
use Rattle.go_typexpr_core.proofs.WrittenCollected.{named_step, named_whole}
use Rattle.go_typexpr_core.proofs.written.terms.add_names.Goals as goal

pub loop-next-init : goal.loop-next-init
loop-next-init c = c.in_ok-add_field.ensures

pub loop-next-preserved : goal.loop-next-preserved
loop-next-preserved c =
    named_step (in_file c.args.at.now) c.args.line c.args.idents.now.first c.deref-next-items.result.now c.loop-next.next-index c.next-item.result c.args.fields.now.items c.loop-next.fields.items _ c.loop-next-test.true c.next-item.is c.loop-next.invariant c.in_ok-add_field-2.ensures

pub returns : goal.returns
returns c =
    named_whole (in_file c.args.at.now) c.args.line c.args.idents.now.first c.deref-next-items.result.now c.args.idents.now.more.items c.loop-next.next-index c.args.fields.now.items c.loop-next.fields.items c.deref-next-items.ensures.value c.loop-next-test.false c.loop-next.invariant
