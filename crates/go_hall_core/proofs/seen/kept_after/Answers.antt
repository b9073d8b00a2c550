use Rattle.std.proofs.Common.{List, sym, subst}
use Rattle.go_sched_core.specs.Sights.{AreOfActions}
use Rattle.go_sched_core.specs.declared.event.Action.{Action}
use Rattle.go_hall_core.proofs.seen.kept_after.Goals as goal

pub new-requires : goal.new-requires
new-requires g c = subst (λ (l : List Action). AreOfActions l c.args.generation c.args.sight) (sym c.in-Some.ensures.0) (c.requires c.in-Some.ensures.1)
