-- What the lock keeps.
use Rattle.std.specs.Prelude.{◌≡◌, ◌⊎◌, ℕ, ◌+◌, ◌≤◌, Bool, true, false, List, [], ◌∷◌, ◌++◌, length, Option, Some, None}
use Rattle.go_path_core.specs.text_core.declared.rule.Rule.{Rule}
use Rattle.go_path_core.specs.text_core.declared.rule.Rule.TheVariants.{M0, H1, H2}
use Rattle.go_sched_core.specs.Service.{Service, empty, most_events}
use Rattle.go_sched_core.specs.Steps.{Replay, Step, accepts}
use Rattle.go_sched_core.specs.declared.event.Event.{Event}
use Rattle.go_sched_core.specs.declared.event.Reply.{Reply}
use Rattle.go_sched_core.specs.declared.running.Running.{Running}

-- the core, the events that it accepted, and whether the hall is stopped
pub record Kept : Type 0 where
  pub service : Service
  pub history : List Event
  pub stopped : Bool

abbrev pub kept_with : Service → List Event → Bool → Kept
kept_with service history stopped = record { service = service; history = history; stopped = stopped }

-- the core's count where the history holds so many events: it stops at the most
abbrev pub IsCountOf : ℕ → ℕ → Type 0
IsCountOf n count = ((count ≡ n) × (n ≤ most_events)) ⊎ ((count ≡ most_events) × (most_events ≤ n))

-- the core counts the events of each history, so that H1 comes just where it is full
abbrev pub CountsHistory : Type 0
CountsHistory = (h : List Event) (s : Service) → Replay empty h s → IsCountOf (length h) s.accepted

-- from old, the core gives this reply to the event, which stands in the history just where it was accepted
abbrev pub Recorded : Kept → Event → Reply → Kept → Type 0
Recorded old event reply new =
    Step old.service event reply new.service
    × (accepts reply ≡ true → new.history ≡ old.history ++ event ∷ [])
    × (accepts reply ≡ false → new.history ≡ old.history)
    × (new.stopped ≡ old.stopped)

-- the rule that is shown once the hall is stopped: H2 before H1
abbrev pub late : Rule → Rule
late H1 = H2
late rule = rule

-- the first rule that an open or a submission breaks in the hall, where this is the first that it breaks in the core
abbrev pub hall_rule : Bool → Option Rule → Option Rule
hall_rule false rule = rule
hall_rule true None = Some H2
hall_rule true (Some rule) = Some (late rule)

-- a refusal: want of memory, or just the rule that is broken
abbrev pub IsRefusal : Bool → Option Rule → Rule → Type 0
IsRefusal stopped broken rule = (rule ≡ M0) ⊎ (hall_rule stopped broken ≡ Some rule)

-- the room in the history that is kept for what takes no memory: a close of each session, and a batch that is given back
abbrev pub owed_batch : Option Running → ℕ
owed_batch None = 0
owed_batch (Some r) = 1

abbrev pub owed : Service → ℕ
owed s = length s.held + owed_batch s.running
