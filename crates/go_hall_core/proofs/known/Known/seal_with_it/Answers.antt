use Rattle.std.proofs.Common.{◌≡◌, subst}
use Rattle.go_sched_core.specs.Sights.{IsListed}
use Rattle.go_hall_core.specs.mirrors.Known.{KnownModel}
use Rattle.go_hall_core.proofs.known.Known.seal_with_it.Goals as goal

pub returns-then-self : goal.returns-then-self
returns-then-self g c =
    subst (λ (m : KnownModel). (c.again.result ≡ m.log) × IsListed m.log m.action) c.self.view_is (c.again.ensures, c.self.invariant.there c.if-self.true)
