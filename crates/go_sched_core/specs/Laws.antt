-- What runs come to.
use Rattle.std.specs.Prelude.{◌≡◌, ◌⊎◌, ◌≤◌, ℕ, true, List, [], ◌∷◌, ◌++◌, length}
use Rattle.go_sched_core.specs.Service.{Service, empty, most_events}
use Rattle.go_sched_core.specs.Steps.{Replay, Run, Step, accepts}
use Rattle.go_sched_core.specs.declared.event.Event.{Event}
use Rattle.go_sched_core.specs.declared.event.Reply.{Reply}

-- a run goes on by one step
abbrev pub RunsGoOn : Type 0
RunsGoOn = (s : Service) (es : List Event) (rs : List Reply) (m : Service) (e : Event) (r : Reply) (t : Service) → Run s es rs m → Step m e r t → Run s (es ++ e ∷ []) (rs ++ r ∷ []) t

-- a replay goes on by one accepted step
abbrev pub ReplaysGoOn : Type 0
ReplaysGoOn = (s : Service) (es : List Event) (m : Service) (e : Event) (r : Reply) (t : Service) → Replay s es m → accepts r ≡ true → Step m e r t → Replay s (es ++ e ∷ []) t
