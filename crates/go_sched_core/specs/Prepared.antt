-- A step that was prepared.
use Rattle.std.specs.Prelude.{◌≡◌, ◌≢◌, true, List, None, ⊤}
use Rattle.go_submit_core.specs.declared.published.PublishedBatch.{PublishedBatch}
use Rattle.go_sched_core.specs.Service.{Service, module_held, open_rule, submit_rule}
use Rattle.go_sched_core.specs.Steps.{runs}
use Rattle.go_sched_core.specs.declared.event.Event.{Event}
use Rattle.go_sched_core.specs.declared.event.Event.TheVariants.{Open, Close, Submit, Take, Finish, GiveBack}

-- the state before, the event, and the published batches after it
pub record Prepared : Type 0 where
  pub from : Service
  pub event : Event
  pub batches : List PublishedBatch

abbrev pub prepared_with : Service → Event → List PublishedBatch → Prepared
prepared_with from event batches = record { from = from; event = event; batches = batches }

-- no rule refuses the event
abbrev pub IsAllowed : Service → Event → Type 0
IsAllowed s (Open m) = open_rule s m ≡ None
IsAllowed s (Close id) = module_held s.held id ≢ None
IsAllowed s (Submit id tree) = submit_rule s id tree ≡ None
IsAllowed s (GiveBack g) = runs s.running g ≡ true
IsAllowed s _ = ⊤
