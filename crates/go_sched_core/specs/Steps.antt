-- The steps of the service, by cases. It may choose which ready action it hands out.
use Rattle.std.specs.Prelude.{◌≡◌, ◌≢◌, ℕ, ◌+◌, Bool, true, false, nat_eq, List, [], ◌∷◌, ◌++◌, length, Option, Some, None, remove, position}
use Rattle.go_path_core.specs.text_core.declared.rule.Rule.{Rule}
use Rattle.go_path_core.specs.text_core.declared.rule.Rule.TheVariants.{M0, O5, Z1}
use Rattle.go_submit_core.specs.package_core.PackagePartInputs.{path_in}
use Rattle.go_submit_core.specs.package_core.PackagePartParts.{PartModel}
use Rattle.go_submit_core.specs.snap_core.Snapshots.{IsSnapshot, SnapshotModel}
use Rattle.go_submit_core.specs.Published.{IsEarlierPart, batch_of, sources_of}
use Rattle.go_submit_core.specs.Submitted.{submission_with, submitted}
use Rattle.go_submit_core.specs.declared.submission.Submission.{Submission}
use Rattle.go_submit_core.specs.declared.submission.Ticket.{Ticket}
use Rattle.go_batch_core.specs.Batches.{BatchModel, Gets, HandsOut, IsBegun, IsBusy, IsForeign, NoneReady, actions_left}
use Rattle.go_sched_core.specs.Service.{Service, counts, module_held, open_rule, submit_rule}
use Rattle.go_sched_core.specs.declared.event.Action.{Action}
use Rattle.go_sched_core.specs.declared.event.Event.{Event}
use Rattle.go_sched_core.specs.declared.event.Event.TheVariants.{Open, Close, Submit, Take, Finish, GiveBack}
use Rattle.go_sched_core.specs.declared.event.Held.{Held}
use Rattle.go_sched_core.specs.declared.event.Reply.{Reply}
use Rattle.go_sched_core.specs.declared.event.Reply.TheVariants.{Opened, Closed, Submitted, Act, Idle, Finished, Published, GaveBack, Refused}
use Rattle.go_sched_core.specs.declared.event.SessionId.{SessionId}
use Rattle.go_sched_core.specs.declared.running.Running.{Running}

abbrev pub session_with : ℕ → SessionId
session_with n = record { 0 = n }

abbrev pub ticket_with : ℕ → Ticket
ticket_with n = record { 0 = n }

abbrev pub held_with : SessionId → List ℕ → Held
held_with id own = record { session = id; own = own }

abbrev pub running_with : ℕ → List Submission → BatchModel → Running
running_with generation submissions batch = record { generation = generation; submissions = submissions; batch = batch }

abbrev pub with_batch : Running → BatchModel → Running
with_batch r b = running_with r.generation r.submissions b

-- the sessions without this one
abbrev pub without_at : List Held → Option ℕ → List Held
without_at hs None = hs
without_at hs (Some k) = remove hs k

abbrev pub without_session : List Held → SessionId → List Held
without_session hs id = without_at hs (position (λ h. nat_eq h.session.0 id.0) hs)

-- the batch of all that waits
pub record IsFormed (s : Service) (r : Running) : Type 0 where
  pub generation : r.generation ≡ s.generations + 1
  pub submissions : r.submissions ≡ s.waiting
  pub begun : IsBegun (submitted (sources_of s.published) s.waiting) r.batch
  pub busy : IsBusy r.batch

-- the state in which that batch runs
abbrev pub with_formed : Service → Running → Service
with_formed s r = record s { waiting = []; generations = s.generations + 1; running = Some r }

-- where an action says a number, it is that of its package, and the earlier part is made of its input
pub record IsKeptAt (a : Action) (place n : ℕ) : Type 0 where
  pub number : n ≡ place
  pub part : PartModel
  pub earlier : a.earlier ≡ Some part
  pub input : part.input ≡ a.input

abbrev pub IsKeptIf : Action → ℕ → Type 0
IsKeptIf a place = (n : ℕ) → a.kept ≡ Some n → IsKeptAt a place n

-- a ready action of the running batch is handed out
pub record Acts (s : Service) (r : Running) (a : Action) (t : Service) : Type 0 where
  pub generation : a.generation ≡ r.generation
  pub number : a.number ≡ s.actions + 1
  pub earlier : IsEarlierPart s.published (path_in a.input) a.earlier
  pub after : BatchModel
  pub handed : HandsOut r.batch a.number a.input after
  pub kept : IsKeptIf a handed.place
  pub state : t ≡ counts (record s { actions = s.actions + 1; running = Some (with_batch r after) })

-- the running batch, of which no action is left, is published
pub record Publishes (s : Service) (r : Running) (n : ℕ) (t : Service) : Type 0 where
  pub over : actions_left r.batch ≡ 0
  pub snapshot : SnapshotModel
  pub sources : snapshot.sources ≡ r.batch.sources
  pub parts : snapshot.parts ≡ r.batch.parts
  pub whole : IsSnapshot snapshot.sources snapshot.parts snapshot.faults
  pub number : n ≡ length s.published + 1
  pub state : t ≡ counts (record s { running = None; published = s.published ++ batch_of r.submissions snapshot ∷ [] })

-- what a take does where this batch runs
abbrev pub Takes : Service → Running → Reply → Service → Type 0
Takes s r (Act a) t = Acts s r a t
Takes s r Idle t = NoneReady r.batch × (t ≡ s)
Takes s r _ t = ⊥

-- what a take does where no batch runs, and these submissions wait
abbrev pub TakesNew : List Submission → Service → Reply → Service → Type 0
TakesNew [] s Idle t = t ≡ s
TakesNew [] s _ t = ⊥
TakesNew (w ∷ ws) s (Published n) t = (r : Running) × IsFormed s r × Publishes (with_formed s r) r n t
TakesNew (w ∷ ws) s (Act a) t = (r : Running) × IsFormed s r × Acts (with_formed s r) r a t
TakesNew (w ∷ ws) s _ t = ⊥

abbrev pub TakesOf : Option Running → Service → Reply → Service → Type 0
TakesOf None s reply t = TakesNew s.waiting s reply t
TakesOf (Some r) s reply t = Takes s r reply t

-- what a part does to the running batch
abbrev pub Finishes : Option Running → ℕ → PartModel → Service → Reply → Service → Type 0
Finishes None number part s (Refused Z1) t = t ≡ s
Finishes None number part s _ t = ⊥
Finishes (Some r) number part s (Refused Z1) t = IsForeign r.batch number part × (t ≡ s)
Finishes (Some r) number part s Finished t = (b : BatchModel) × Gets r.batch number part b × (actions_left b ≢ 0) × (t ≡ counts (record s { running = Some (with_batch r b) }))
Finishes (Some r) number part s (Published n) t = (b : BatchModel) × Gets r.batch number part b × Publishes s (with_batch r b) n t
Finishes (Some r) number part s _ t = ⊥

abbrev pub runs : Option Running → ℕ → Bool
runs None g = false
runs (Some r) g = nat_eq r.generation g

-- from s, the service may give this reply to the event and go on to t; a close and a give-back want no memory
abbrev pub Step : Service → Event → Reply → Service → Type 0
Step s (Open m) (Opened id) t = (open_rule s m ≡ None) × (id.0 ≡ s.opened + 1) × (t ≡ counts (record s { opened = s.opened + 1; held = s.held ++ held_with id m ∷ [] }))
Step s (Open m) (Refused M0) t = t ≡ s
Step s (Open m) (Refused rule) t = (open_rule s m ≡ Some rule) × (t ≡ s)
Step s (Open m) _ t = ⊥
Step s (Close id) Closed t = (module_held s.held id ≢ None) × (t ≡ counts (record s { held = without_session s.held id }))
Step s (Close id) (Refused O5) t = (module_held s.held id ≡ None) × (t ≡ s)
Step s (Close id) _ t = ⊥
Step s (Submit id tree) (Submitted n) t = (submit_rule s id tree ≡ None) × (n.0 ≡ s.tickets + 1) × (t ≡ counts (record s { tickets = s.tickets + 1; waiting = s.waiting ++ submission_with n.0 tree ∷ [] }))
Step s (Submit id tree) (Refused M0) t = t ≡ s
Step s (Submit id tree) (Refused rule) t = (submit_rule s id tree ≡ Some rule) × (t ≡ s)
Step s (Submit id tree) _ t = ⊥
Step s Take (Refused M0) t = t ≡ s
Step s Take reply t = TakesOf s.running s reply t
Step s (Finish number part) (Refused M0) t = t ≡ s
Step s (Finish number part) reply t = Finishes s.running number part s reply t
Step s (GiveBack g) GaveBack t = (runs s.running g ≡ true) × (t ≡ counts (record s { running = None }))
Step s (GiveBack g) (Refused Z1) t = (runs s.running g ≡ false) × (t ≡ s)
Step s (GiveBack g) _ t = ⊥

-- such a reply stands in the history
abbrev pub accepts : Reply → Bool
accepts Idle = false
accepts (Refused rule) = false
accepts _ = true

-- a whole run, one step after another
abbrev pub Run : Service → List Event → List Reply → Service → Type 0
Run s [] [] t = t ≡ s
Run s (e ∷ es) (r ∷ rs) t = (mid : Service) × Step s e r mid × Run mid es rs t
Run s [] (r ∷ rs) t = ⊥
Run s (e ∷ es) [] t = ⊥

-- the states in which a run over these accepted events, in order, may end
abbrev pub Replay : Service → List Event → Service → Type 0
Replay s [] t = t ≡ s
Replay s (e ∷ es) t = (reply : Reply) × (mid : Service) × (accepts reply ≡ true) × Step s e reply mid × Replay mid es t
