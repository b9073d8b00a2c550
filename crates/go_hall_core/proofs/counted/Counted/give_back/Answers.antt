use Rattle.std.proofs.Common.{◌+◌, refl, sym, ap, ◌∙◌}
use Rattle.go_sched_core.specs.declared.event.Event.TheVariants.{GiveBack}
use Rattle.go_hall_core.proofs.Pushes.{recorded_counts}
use Rattle.go_hall_core.proofs.Stamps.{recorded_stamped}
use Rattle.go_hall_core.proofs.counted.Counted.give_back.Goals as goal

pub invariant_of-self : goal.invariant_of-self
invariant_of-self g c =
    let same = recorded_counts c.self.inside.state c.give_back.new.self (GiveBack c.args.generation) c.give_back.result c.give_back.ensures refl refl in
    (c.self.invariant.0 ∙ sym same.1, c.self.invariant.1, ap (λ n. c.self.inside.rest.parts + n) same.0 ∙ c.self.invariant.2, c.self.invariant.3, recorded_stamped c.self.inside.stamper c.self.inside.state c.give_back.new.self (GiveBack c.args.generation) c.give_back.result c.give_back.ensures c.self.invariant.4)
