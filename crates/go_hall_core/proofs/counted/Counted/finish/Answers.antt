use Rattle.std.proofs.Common.{◌+◌, refl, sym, ap, ◌∙◌}
use Rattle.go_sched_core.specs.declared.event.Event.TheVariants.{Finish}
use Rattle.go_hall_core.proofs.Pushes.{recorded_counts}
use Rattle.go_hall_core.proofs.Stamps.{recorded_stamped}
use Rattle.go_hall_core.proofs.counted.Counted.finish.Goals as goal

pub invariant_of-self : goal.invariant_of-self
invariant_of-self g c =
    let event = Finish c.args.errand.now.action.number c.args.part in
    let same = recorded_counts c.self.inside.state c.finish_known.new.self event c.finish_known.result c.finish_known.ensures refl refl in (
      c.self.invariant.0 ∙ sym same.1,
      c.self.invariant.1,
      ap (λ n. c.self.inside.rest.parts + n) same.0 ∙ c.self.invariant.2,
      c.self.invariant.3,
      recorded_stamped c.self.inside.stamper c.self.inside.state c.finish_known.new.self event c.finish_known.result c.finish_known.ensures c.self.invariant.4,
    )

pub invariant_of-self-else-has_stamped : goal.invariant_of-self-else-has_stamped
invariant_of-self-else-has_stamped g c =
    let event = Finish c.args.errand.now.action.number c.args.part in
    let same = recorded_counts c.self.inside.state c.finish.new.self event c.finish.result c.finish.ensures refl refl in (
      c.self.invariant.0 ∙ sym same.1,
      c.self.invariant.1,
      ap (λ n. c.self.inside.rest.parts + n) same.0 ∙ c.self.invariant.2,
      c.self.invariant.3,
      recorded_stamped c.self.inside.stamper c.self.inside.state c.finish.new.self event c.finish.result c.finish.ensures c.self.invariant.4,
    )
