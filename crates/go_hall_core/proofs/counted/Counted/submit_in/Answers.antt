use Rattle.std.proofs.Common.{◌≡◌, ◌+◌, refl, ap, ◌∙◌, arith}
use Rattle.go_sched_core.specs.declared.event.Event.TheVariants.{Submit}
use Rattle.go_sched_core.specs.declared.event.Reply.TheVariants.{Submitted}
use Rattle.go_hall_core.specs.Counts.{opens_in, submits_in}
use Rattle.go_hall_core.proofs.Pushes.{opens_push, submits_push}
use Rattle.go_hall_core.proofs.Stamps.{recorded_stamped}
use Rattle.go_hall_core.proofs.counted.Counted.submit_in.Goals as goal

pub invariant_of-self-2 : goal.invariant_of-self-2
invariant_of-self-2 g c =
    let event = Submit c.args.id c.args.tree in
    let recorded = c.in_ok-ticket.ensures.ok.1 in
    let pushed = recorded.1 refl in
    let submits : submits_in c.submit.new.self.history ≡ submits_in c.self.inside.state.history + 1 = ap submits_in pushed ∙ submits_push c.self.inside.state.history event in
    let opens : opens_in c.submit.new.self.history ≡ opens_in c.self.inside.state.history + 0 = ap opens_in pushed ∙ opens_push c.self.inside.state.history event in (
      omega (arith, c.add.ensures.total, c.self.invariant.0, submits),
      c.self.invariant.1,
      omega (arith, c.self.invariant.2, opens),
      c.self.invariant.3,
      recorded_stamped c.self.inside.stamper c.self.inside.state c.submit.new.self event (Submitted c.in_ok-ticket.ticket) recorded c.self.invariant.4,
    )
