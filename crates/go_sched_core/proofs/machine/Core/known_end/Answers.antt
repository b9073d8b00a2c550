use Rattle.std.proofs.Common.{Option, sym, subst}
use Rattle.go_sched_core.specs.Outs.{IsOut, KnowsInput}
use Rattle.go_sched_core.specs.Service.{Service}
use Rattle.go_sched_core.specs.declared.running.Running.{Running}
use Rattle.go_sched_core.proofs.machine.Core.known_end.Goals as goal

pub awaiting_known-place-requires : goal.awaiting_known-place-requires
awaiting_known-place-requires c n i taken =
    let knows = subst (λ (s : Service). KnowsInput s c.args.number c.args.part.now.input) (sym c.self.view_is) c.requires in
    knows n i (subst (λ (o : Option Running). IsOut o n c.args.number i) (sym c.in-Some.is) taken)
