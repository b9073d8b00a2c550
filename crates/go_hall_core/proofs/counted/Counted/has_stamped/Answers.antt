use Rattle.std.proofs.Common.{subst}
use Rattle.go_sched_core.specs.Outs.{KnowsInput}
use Rattle.go_hall_core.specs.Kept.{Kept}
use Rattle.go_hall_core.proofs.Stamps.{knows_stamped}
use Rattle.go_hall_core.proofs.counted.Counted.has_stamped.Goals as goal

pub returns-in-Some : goal.returns-in-Some
returns-in-Some g c is =
    let action = c.args.errand.now.action in
    let found = c.has_given.ensures is in
    let same = c.args.errand.now.stamped c.in-Some.stamp c.in-Some.is in
    subst (λ (k : Kept). KnowsInput k.service action.number action.input) c.self.view_is (knows_stamped c.self.inside.stamper c.self.inside.state.service action c.in-Some.stamp found.0 c.self.invariant.4 found.1 same)
