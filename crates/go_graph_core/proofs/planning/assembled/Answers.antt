use Rattle.std.proofs.Common.{◌∙◌, sym, ap}
use Rattle.std.specs.List.{filter}
use Rattle.std.proofs.lemmas.List.{take_all}
use Rattle.go_graph_core.specs.mirrors.Targets.{is_assembled}
use Rattle.go_graph_core.proofs.PlanOrder.{kept_more, passed_more}
use Rattle.go_graph_core.proofs.planning.assembled.Goals.{then-is_assembled+in_ok-push, else-is_assembled}
use Rattle.go_graph_core.proofs.planning.assembled.Goals as goal

pub loop-number-preserved : goal.loop-number-preserved
loop-number-preserved c =
    let p = is_assembled c.args.standings.now in
    elim c.if-is_assembled.branch [
      | then-is_assembled+in_ok-push w ↦ ap (λ v. v.items) w.order-is ∙ kept_more p c.args.numbers.now c.loop-number.number-index 0 c.loop-number.order.items w.push.new.self.items c.loop-number-test.true (sym c.is_assembled.ensures ∙ w.if-is_assembled.true) c.loop-number.invariant w.in_ok-push.ensures.items
      | else-is_assembled w ↦ ap (λ v. v.items) w.order-is ∙ passed_more p c.args.numbers.now c.loop-number.number-index 0 c.loop-number.order.items c.loop-number-test.true (sym c.is_assembled.ensures ∙ w.if-is_assembled.false) c.loop-number.invariant
    ]

pub returns : goal.returns
returns c = c.loop-number.invariant ∙ ap (filter (is_assembled c.args.standings.now)) (take_all c.loop-number.number-index c.args.numbers.now c.loop-number-test.false)
