-- Runs and replays go on by one step.
use Rattle.std.proofs.Common.{◌≡◌, true, List, [], ◌∷◌, ◌++◌, refl, subst}
use Rattle.go_sched_core.specs.Service.{Service}
use Rattle.go_sched_core.specs.Steps.{Replay, Run, Step, accepts}
use Rattle.go_sched_core.specs.declared.event.Event.{Event}
use Rattle.go_sched_core.specs.declared.event.Reply.{Reply}

pub run_more : (s : Service) (es : List Event) (rs : List Reply) (m : Service) (e : Event) (r : Reply) (t : Service) → Run s es rs m → Step m e r t → Run s (es ++ e ∷ []) (rs ++ r ∷ []) t
run_more s [] [] m e r t same step = (t, subst (λ (x : Service). Step x e r t) same step, refl)
run_more s (x ∷ es) (y ∷ rs) m e r t run step = (run.0, run.1, run_more run.0 es rs m e r t run.2 step)
run_more s [] (y ∷ rs) m e r t run step = absurd run
run_more s (x ∷ es) [] m e r t run step = absurd run

pub replay_more : (s : Service) (es : List Event) (m : Service) (e : Event) (r : Reply) (t : Service) → Replay s es m → accepts r ≡ true → Step m e r t → Replay s (es ++ e ∷ []) t
replay_more s [] m e r t same ok step = (r, t, ok, subst (λ (x : Service). Step x e r t) same step, refl)
replay_more s (x ∷ es) m e r t run ok step = (run.0, run.1, run.2, run.3, replay_more run.1 es m e r t run.4 ok step)
