use Rattle.std.proofs.Common.{sym, ap, subst, ◌∙◌}
use Rattle.std.specs.Prelude.{slice_get}
use Rattle.go_sched_core.specs.Sights.{KnowsOthers}
use Rattle.go_hall_core.specs.mirrors.Known.{KnownModel}
use Rattle.go_hall_core.proofs.known.Known.covers.Goals as goal

pub returns-clause-covered : goal.returns-clause-covered
returns-clause-covered g c is k x at = ap (λ (m : KnownModel). slice_get m.log k) (sym c.self.view_is) ∙ c.covers.ensures is k x at

pub returns-clause-known : goal.returns-clause-known
returns-clause-known g c = subst (λ (m : KnownModel). KnowsOthers m.log m.action) c.self.view_is c.self.invariant.known
