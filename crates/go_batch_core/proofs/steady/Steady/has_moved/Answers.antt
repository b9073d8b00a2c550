use Rattle.std.proofs.Common.{◌↔◌, Contains, IsTrue, List, Bool, true, ap, subst}
use Rattle.go_batch_core.specs.Steadiness.{SteadyModel}
use Rattle.go_batch_core.proofs.steady.Steady.has_moved.Goals as goal

pub returns : goal.returns
returns c = subst (λ (l : List Bool). IsTrue c.has_any.result ↔ Contains l true) (ap (λ (m : SteadyModel). m.moved) c.self.view_is) c.has_any.ensures
