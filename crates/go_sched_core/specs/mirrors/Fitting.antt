-- What is known of a change that was prepared.
use Rattle.std.specs.Prelude.{◌≡◌, ◌≢◌, ℕ, ◌+◌, ◌<◌, ◌^◌, Bool, true, List, [], ◌∷◌, ◌++◌, length, Option, Some, None}
use Rattle.go_submit_core.specs.package_core.PackagePartInputs.{path_in}
use Rattle.go_submit_core.specs.package_core.PackagePartParts.{PartModel}
use Rattle.go_submit_core.specs.snap_core.Snapshots.{IsSnapshot, SnapshotModel}
use Rattle.go_submit_core.specs.Published.{IsEarlierPart, batch_of, last_of}
use Rattle.go_submit_core.specs.Submitted.{submission_with}
use Rattle.go_submit_core.specs.Trees.{TreeModel}
use Rattle.go_submit_core.specs.declared.published.PublishedBatch.{PublishedBatch}
use Rattle.go_submit_core.specs.declared.submission.Submission.{Submission}
use Rattle.go_batch_core.specs.Batches.{Awaits, BatchModel, IsEnding, IsNext, actions_left, with_part}
use Rattle.go_batch_core.specs.declared.batch.Ending.{Ending}
use Rattle.go_sched_core.specs.Service.{Service, module_held, open_rule, submit_rule}
use Rattle.go_sched_core.specs.Steps.{IsFormed, runs, with_batch}
use Rattle.go_sched_core.specs.declared.change.Change.{Change}
use Rattle.go_sched_core.specs.declared.change.Change.TheVariants as change
use Rattle.go_sched_core.specs.declared.change.Hand.{Hand}
use Rattle.go_sched_core.specs.declared.event.Event.{Event}
use Rattle.go_sched_core.specs.declared.event.Event.TheVariants.{Open, Close, Submit, Take, Finish, GiveBack}
use Rattle.go_sched_core.specs.declared.event.SessionId.{SessionId}
use Rattle.go_batch_core.specs.Steadiness.{IsStoodFor, SteadyModel}
use Rattle.go_batch_core.specs.declared.retold.Retold.{Retold}
use Rattle.go_sched_core.specs.declared.running.Running.{Running}
use Rattle.go_sched_core.specs.mirrors.Beside.{IsLastAt, IsMove, IsSteadyBeside}

-- the last published part of an action's package is made of its input
abbrev pub IsKeptHand : List PublishedBatch → Hand → Type 0
IsKeptHand bs h = (p : PartModel) × (h.earlier ≡ Some p) × (p.input ≡ h.next.input) × IsLastAt bs h.next.place p

-- the last published part of an action's package has what the action's input gives
abbrev pub IsStoodHand : List PublishedBatch → Hand → Type 0
IsStoodHand bs h = (b : PublishedBatch) × (last_of bs ≡ Some b) × IsStoodFor b.snapshot h.next.place h.next.input

-- a ready action of a batch, and the last published part of its package; that this is made of the action's input is marked, and so is that it has what this
-- input gives
pub record IsHand (bs : List PublishedBatch) (b : BatchModel) (h : Hand) : Type 0 where
  pub next : IsNext b h.next
  pub earlier : IsEarlierPart bs (path_in h.next.input) h.earlier
  pub kept : h.kept ≡ true → IsKeptHand bs h
  pub stood : h.stood ≡ true → IsStoodHand bs h

-- the batches with this one, of which no action is left
pub record ArePublished (before : List PublishedBatch) (r : Running) (bs : List PublishedBatch) : Type 0 where
  pub over : actions_left r.batch ≡ 0
  pub snapshot : SnapshotModel
  pub sources : snapshot.sources ≡ r.batch.sources
  pub parts : snapshot.parts ≡ r.batch.parts
  pub whole : IsSnapshot snapshot.sources snapshot.parts snapshot.faults
  pub pushed : bs ≡ before ++ batch_of r.submissions snapshot ∷ []

pub record FitsOpen (s : Service) (e : Event) (m : List ℕ) : Type 0 where
  pub event : e ≡ Open m
  pub rule : open_rule s m ≡ None
  pub few : length s.held < 32
  pub numbered : s.opened + 1 < 2 ^ 64

pub record FitsClose (s : Service) (e : Event) (id : SessionId) : Type 0 where
  pub event : e ≡ Close id
  pub held : module_held s.held id ≢ None

pub record FitsSubmit (s : Service) (e : Event) (grown : List Submission) : Type 0 where
  pub id : SessionId
  pub tree : TreeModel
  pub event : e ≡ Submit id tree
  pub rule : submit_rule s id tree ≡ None
  pub grown_is : grown ≡ submission_with (s.tickets + 1) tree ∷ []
  pub numbered : s.tickets + 1 < 2 ^ 64
  pub few : length s.waiting < 2 ^ 62

pub record FitsHandOut (s : Service) (e : Event) (h : Hand) : Type 0 where
  pub r : Running
  pub event : e ≡ Take
  pub running : s.running ≡ Some r
  pub hand : IsHand s.published r.batch h
  pub numbered : s.actions + 1 < 2 ^ 64

-- all that waits is to be a batch
pub record IsBeginning (s : Service) (e : Event) (r : Running) : Type 0 where
  pub first : Submission
  pub others : List Submission
  pub event : e ≡ Take
  pub none : s.running ≡ None
  pub waiting : s.waiting ≡ first ∷ others
  pub formed : IsFormed s r
  pub numbered : s.generations + 1 < 2 ^ 64

pub record FitsBegin (s : Service) (e : Event) (r : Running) (steady : Option SteadyModel) (h : Hand) : Type 0 where
  pub begins : IsBeginning s e r
  pub steady_is : IsSteadyBeside s.published r.batch steady
  pub hand : IsHand s.published r.batch h
  pub numbered : s.actions + 1 < 2 ^ 64

pub record FitsPublishNew (s : Service) (e : Event) (bs : List PublishedBatch) : Type 0 where
  pub r : Running
  pub begins : IsBeginning s e r
  pub published : ArePublished s.published r bs

pub record IsFinishing (s : Service) (e : Event) (place : ℕ) (part : PartModel) (r : Running) : Type 0 where
  pub number : ℕ
  pub event : e ≡ Finish number part
  pub running : s.running ≡ Some r
  pub awaits : Awaits r.batch place number part

pub record FitsFinish (s : Service) (e : Event) (ending : Ending) (retold : Retold) : Type 0 where
  pub r : Running
  pub finishing : IsFinishing s e ending.place ending.part r
  pub others : actions_left r.batch ≢ 1
  pub ends : IsEnding r.batch ending
  pub moves : IsMove s.published ending.place ending.part retold

pub record FitsPublishLast (s : Service) (e : Event) (bs : List PublishedBatch) : Type 0 where
  pub r : Running
  pub place : ℕ
  pub part : PartModel
  pub finishing : IsFinishing s e place part r
  pub published : ArePublished s.published (with_batch r (with_part r.batch place part)) bs

pub record FitsGiveBack (s : Service) (e : Event) : Type 0 where
  pub generation : ℕ
  pub event : e ≡ GiveBack generation
  pub running : runs s.running generation ≡ true

-- the change is what the event asks for in this state
abbrev pub Fits : Service → Event → Change → Type 0
Fits s e (change.Open m) = FitsOpen s e m
Fits s e (change.Close id) = FitsClose s e id
Fits s e (change.Submit grown) = FitsSubmit s e grown
Fits s e (change.HandOut h) = FitsHandOut s e h
Fits s e (change.Begin r steady h) = FitsBegin s e r steady h
Fits s e (change.PublishNew bs) = FitsPublishNew s e bs
Fits s e (change.Finish ending moved) = FitsFinish s e ending moved
Fits s e (change.PublishLast bs) = FitsPublishLast s e bs
Fits s e change.GiveBack = FitsGiveBack s e

-- the published batches after a change
abbrev pub batches_after : List PublishedBatch → Change → List PublishedBatch
batches_after before (change.Open m) = before
batches_after before (change.Close id) = before
batches_after before (change.Submit grown) = before
batches_after before (change.HandOut h) = before
batches_after before (change.Begin r steady h) = before
batches_after before (change.PublishNew bs) = bs
batches_after before (change.Finish ending moved) = before
batches_after before (change.PublishLast bs) = bs
batches_after before change.GiveBack = before
