use Rattle.std.proofs.Common.{sym, ap}
use Rattle.go_code_core.specs.fragments.Names.{frame_of}
use Rattle.go_code_core.specs.fragments.Fragment.{expr_gives, receiver_fits}
use Rattle.go_tree_nodes.proofs.ShapeLemmas.{call_form, literal_form, struct_form}
use Rattle.go_code_core.proofs.FragmentsForms.{argument_unfit, call_given, receiver_unfit}
use Rattle.go_code_core.proofs.fragments.fragment.+giving.Goals as goal
use Rattle.go_code_core.proofs.fragments.fragment.+giving.Goals.{expr_gives-else-receiver_fits-via-then-receiver_fits+else-all_ones, expr_gives-else-receiver_fits-via-else-receiver_fits}

pub expr_gives-returns-in-Literal : goal.expr_gives-returns-in-Literal
expr_gives-returns-in-Literal g t c = sym (ap (expr_gives (frame_of (g.N.CodeNames.looks c.args.frame.now.names.now) c.args.frame.now.slots.now)) (literal_form c.args.expr.now c.in-Literal.field-0 c.in-Literal.is))

pub expr_gives-returns-in-StructLiteral : goal.expr_gives-returns-in-StructLiteral
expr_gives-returns-in-StructLiteral g t c = sym (ap (expr_gives (frame_of (g.N.CodeNames.looks c.args.frame.now.names.now) c.args.frame.now.slots.now)) (struct_form c.args.expr.now c.in-StructLiteral.field-0 c.in-StructLiteral.is))

pub receiver_fits-returns-in-Call : goal.receiver_fits-returns-in-Call
receiver_fits-returns-in-Call g t c = sym (ap (receiver_fits (frame_of (g.N.CodeNames.looks c.args.frame.now.names.now) c.args.frame.now.slots.now)) (call_form c.args.callee.now c.in-Call.field-0 c.in-Call.is))

pub receiver_fits-returns-in-Literal : goal.receiver_fits-returns-in-Literal
receiver_fits-returns-in-Literal g t c = sym (ap (receiver_fits (frame_of (g.N.CodeNames.looks c.args.frame.now.names.now) c.args.frame.now.slots.now)) (literal_form c.args.callee.now c.in-Literal.field-0 c.in-Literal.is))

pub receiver_fits-returns-in-StructLiteral : goal.receiver_fits-returns-in-StructLiteral
receiver_fits-returns-in-StructLiteral g t c = sym (ap (receiver_fits (frame_of (g.N.CodeNames.looks c.args.frame.now.names.now) c.args.frame.now.slots.now)) (struct_form c.args.callee.now c.in-StructLiteral.field-0 c.in-StructLiteral.is))

pub expr_gives-returns-then-all_ones : goal.expr_gives-returns-then-all_ones
expr_gives-returns-then-all_ones g t c =
    call_given (frame_of (g.N.CodeNames.looks c.args.frame.now.names.now) c.args.frame.now.slots.now) c.args.expr.now c.in-Call.call c.in-Call.is
    c.deref-in-Call.result.now c.deref-then-receiver_fits.result.now c.deref-then-all_ones.result.now c.deref-then-all_ones-2.result.now
    c.deref-in-Call.ensures c.deref-then-receiver_fits.ensures c.deref-then-all_ones.ensures c.deref-then-all_ones-2.ensures
    c.receiver_fits.result c.all_ones.result c.receiver_fits.ensures c.if-receiver_fits.true c.all_ones.ensures c.if-all_ones.true
    c.called.result c.item_count.result c.call_gives.result c.called.ensures c.item_count.ensures c.call_gives.ensures

pub expr_gives-returns-else-receiver_fits : goal.expr_gives-returns-else-receiver_fits
expr_gives-returns-else-receiver_fits g t c =
    elim c.else-receiver_fits.branch [
      | expr_gives-else-receiver_fits-via-then-receiver_fits+else-all_ones w ↦
          argument_unfit (frame_of (g.N.CodeNames.looks c.args.frame.now.names.now) c.args.frame.now.slots.now) c.args.expr.now c.in-Call.call c.in-Call.is c.deref-in-Call.result.now w.deref-then-receiver_fits.result.now c.deref-in-Call.ensures w.deref-then-receiver_fits.ensures
          c.receiver_fits.result w.all_ones.result c.receiver_fits.ensures w.if-receiver_fits.true w.all_ones.ensures w.if-all_ones.false
      | expr_gives-else-receiver_fits-via-else-receiver_fits w ↦
          receiver_unfit (frame_of (g.N.CodeNames.looks c.args.frame.now.names.now) c.args.frame.now.slots.now) c.args.expr.now c.in-Call.call c.in-Call.is c.deref-in-Call.result.now c.deref-in-Call.ensures c.receiver_fits.result c.receiver_fits.ensures w.if-receiver_fits.false
    ]
