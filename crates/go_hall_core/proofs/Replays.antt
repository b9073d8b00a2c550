-- A replay goes on by one accepted step.
use Rattle.std.proofs.Common.{◌≡◌, true, List, [], ◌∷◌, ◌++◌, refl, subst}
use Rattle.go_sched_core.specs.Service.{Service}
use Rattle.go_sched_core.specs.Steps.{Replay, Step, accepts}
use Rattle.go_sched_core.specs.declared.event.Event.{Event}
use Rattle.go_sched_core.specs.declared.event.Reply.{Reply}

pub replay_more : (s : Service) (es : List Event) (m : Service) (e : Event) (r : Reply) (t : Service) → Replay s es m → accepts r ≡ true → Step m e r t → Replay s (es ++ e ∷ []) t
replay_more s [] m e r t same ok step = (r, t, ok, subst (λ (x : Service). Step x e r t) same step, refl)
replay_more s (x ∷ es) m e r t run ok step = (run.0, run.1, run.2, run.3, replay_more run.1 es m e r t run.4 ok step)
