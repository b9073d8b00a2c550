use Rattle.std.proofs.Common.{sym, subst}
use Rattle.go_sched_core.specs.Outs.{KnowsInput}
use Rattle.go_hall_core.specs.Kept.{Kept}
use Rattle.go_hall_core.proofs.state.HallState.finish_known.Goals as goal

pub prepare_known-requires : goal.prepare_known-requires
prepare_known-requires g c = subst (λ (k : Kept). KnowsInput k.service c.args.number c.args.part.input) (sym c.self.view_is) c.requires
