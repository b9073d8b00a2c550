-- What the core keeps beside its state, as actions are handed out and finished, and batches are published.
use Rattle.std.proofs.Common.{◌≡◌, ℕ, Bool, true, false, true≢false, cond, List, [], set, Option, Some, None, refl, sym, ap, ◌∙◌, subst}
use Rattle.std.specs.Prelude.{IfSome, slice_get}
use Rattle.go_graph_core.specs.Workspaces.{PackageModel}
use Rattle.go_submit_core.specs.package_core.PackagePartInputs.{InputModel, path_in}
use Rattle.go_submit_core.specs.package_core.PackagePartParts.{IsPart, PartModel}
use Rattle.go_submit_core.specs.snap_core.Snapshots.{SnapshotModel}
use Rattle.go_submit_core.specs.snap_core.WholeWorkspaceInputs.{IsInputAt}
use Rattle.go_submit_core.proofs.Lists.{fold_push}
use Rattle.go_submit_core.specs.Published.{IsEarlierPart, IsPartIn, LeavesWhere, batch_of, last_of, sources_of}
use Rattle.go_submit_core.specs.Submitted.{submitted}
use Rattle.go_submit_core.specs.declared.published.PublishedBatch.{PublishedBatch}
use Rattle.go_batch_core.specs.Batches.{Awaits, BatchModel, IsBegun, IsNext, batch_with, with_part}
use Rattle.go_batch_core.specs.Planning.{IsPlanned}
use Rattle.go_batch_core.specs.Steadiness.{AreAgain, IsSteady, IsStoodFor, StandsAt, StaysAt, SteadyModel, WasAt}
use Rattle.go_batch_core.specs.declared.retold.Retold.{Retold}
use Rattle.go_batch_core.specs.declared.retold.Retold.TheVariants as retolds
use Rattle.go_batch_core.specs.declared.planned.Planned.{Planned}
use Rattle.go_batch_core.specs.declared.slot.Slot.{Slot}
use Rattle.go_batch_core.specs.declared.slot.Slot.TheVariants.{Untaken, Taken}
use Rattle.go_batch_core.proofs.Steadied.{again_finished, steady_begun, steady_finished, steady_handed}
use Rattle.go_sched_core.specs.Service.{Service}
use Rattle.go_sched_core.specs.Steps.{IsFormed, IsKeptIf, with_batch}
use Rattle.go_sched_core.specs.declared.event.Action.{Action}
use Rattle.go_sched_core.specs.declared.change.Hand.{Hand}
use Rattle.go_sched_core.specs.declared.running.Running.{Running}
use Rattle.go_sched_core.specs.mirrors.Beside.{BeginsBeside, BeginsOf, IsAgainBeside, IsAgainOf, IsKeptEnd, IsMove, IsMoveOf, IsPlannedFor, IsSteadyBeside, IsSteadyOf, SteadyRuns, finished, handed}
use Rattle.go_sched_core.specs.mirrors.Fitting.{ArePublished, IsHand}
use Rattle.go_sched_core.specs.mirrors.Kept.{RunsOn}
use Rattle.go_sched_core.proofs.Lists.{some_same}

handed_of : (o : Option PublishedBatch) (b : BatchModel) (st : Option SteadyModel) (place number : ℕ) (i : InputModel) (kept stood : Bool) → IsSteadyOf o b st → slice_get b.slots place ≡ Some Untaken → slice_get b.sources place ≡ Some i.source → (kept ≡ true → (p : PartModel) × (pb : PublishedBatch) × (o ≡ Some pb) × WasAt pb.snapshot.parts place p × (p.input ≡ i))
    → (stood ≡ true → (pb : PublishedBatch) × (o ≡ Some pb) × IsStoodFor pb.snapshot place i)
    → IsSteadyOf o (batch_with b.sources (set b.slots place (Taken number i)) b.parts) (handed st place kept stood)
handed_of o b None place number i kept stood is untaken numbered known stands = tt
handed_of None b (Some m) place number i kept stood is untaken numbered known stands = absurd is
handed_of (Some pb) b (Some m) place number i kept stood is untaken numbered known stands =
    steady_handed pb.snapshot b m place number i kept stood is untaken numbered
    (λ said.
    let k = known said in
    let same : k.1 ≡ pb = (let both : Some pb ≡ Some k.1 = k.2 in cc) in
    (k.0, subst (λ (x : PublishedBatch). WasAt x.snapshot.parts place k.0) same k.3, k.4))
    (λ said.
    let k = stands said in
    let same : k.0 ≡ pb = (let both : Some pb ≡ Some k.0 = k.1 in cc) in
    subst (λ (x : PublishedBatch). IsStoodFor x.snapshot place i) same k.2)

finished_of : (o : Option PublishedBatch) (b : BatchModel) (st : Option SteadyModel) (place number : ℕ) (part : PartModel) (retold : Retold) → IsSteadyOf o b st → Awaits b place number part → IsMoveOf o place part retold → IsSteadyOf o (with_part b place part) (finished st place retold)
finished_of o b None place number part retold is awaits moves = tt
finished_of None b (Some m) place number part retold is awaits moves = absurd is
finished_of (Some pb) b (Some m) place number part retold is awaits moves = steady_finished pb.snapshot b m place number part retold is awaits moves

begun_of : (o : Option PublishedBatch) (ps : List PackageModel) (b : BatchModel) (st : Option SteadyModel) → BeginsOf o ps st → IsBegun ps b → IsSteadyOf o b st
begun_of o ps b None begins begun = tt
begun_of None ps b (Some m) begins begun = absurd begins
begun_of (Some p) ps b (Some m) begins begun = steady_begun p.snapshot ps b m begins begun

-- the marks of a batch that is formed
pub steady_formed : (bs : List PublishedBatch) (ps : List PackageModel) (b : BatchModel) (st : Option SteadyModel) → BeginsBeside bs ps st → IsBegun ps b → IsSteadyBeside bs b st
steady_formed bs ps b st begins begun = begun_of (last_of bs) ps b st begins begun

-- marks and a snapshot that are there
pub steady_there : (bs : List PublishedBatch) (b : BatchModel) (st : Option SteadyModel) (m : SteadyModel) (last : PublishedBatch) → IsSteadyBeside bs b st → st ≡ Some m → last_of bs ≡ Some last → IsSteady last.snapshot b m
steady_there bs b st m last is same there = subst (λ (o : Option PublishedBatch). IsSteadyOf o b (Some m)) there (subst (λ (x : Option SteadyModel). IsSteadyBeside bs b x) same is)

-- the same of the batch that runs
pub steady_running : (bs : List PublishedBatch) (o : Option Running) (r : Running) (st : Option SteadyModel) (m : SteadyModel) (last : PublishedBatch) → SteadyRuns bs o st → o ≡ Some r → st ≡ Some m → last_of bs ≡ Some last → IsSteady last.snapshot r.batch m
steady_running bs o r st m last is running same there = steady_there bs r.batch st m last (subst (λ (x : Option Running). SteadyRuns bs x st) running is) same there

-- the plan of a snapshot's packages
pub planned_there : (bs : List PublishedBatch) (o : Option Planned) (p : Planned) (ps : List PackageModel) → IsPlannedFor bs o → o ≡ Some p → ps ≡ sources_of bs → IsPlanned ps p.plan p.reached
planned_there bs o p ps is there same = subst (λ (qs : List PackageModel). IsPlanned qs p.plan p.reached) (sym same) (subst (λ (x : Option Planned). IsPlannedFor bs x) there is)

-- an action with the input of its earlier part
pub kept_hand : (bs : List PublishedBatch) (last : PublishedBatch) (b : BatchModel) (h : Hand) (place : ℕ) (p : PartModel) → last_of bs ≡ Some last → StaysAt last.snapshot b place p → IsNext b h.next → h.next.place ≡ place → h.next.input ≡ p.input → h.earlier ≡ Some p → h.stood ≡ false → IsHand bs b h
kept_hand bs last b h place p there stays next here input earlier apart = record {
  next = next;
  earlier = subst (λ (o : Option PartModel). IsEarlierPart bs (path_in h.next.input) o) (sym earlier) (subst (λ (i : InputModel). IsEarlierPart bs (path_in i) (Some p)) (sym input) (subst (λ (o : Option PublishedBatch). IsPartIn o (path_in p.input) (Some p)) (sym there) stays.of_path));
  kept = λ said. (p, earlier, sym input, (last, there, subst (λ (n : ℕ). WasAt last.snapshot.parts n p) (sym here) stays.was));
  stood = λ said. absurd (true≢false (sym said ∙ apart));
}

-- an action with its earlier part over an input that is made
pub standing_hand : (bs : List PublishedBatch) (last : PublishedBatch) (b : BatchModel) (h : Hand) (place : ℕ) (p : PartModel) → last_of bs ≡ Some last → StandsAt last.snapshot b place p → IsPart h.next.input p.content → IsNext b h.next → h.next.place ≡ place
    → h.earlier ≡ Some p → h.kept ≡ false → IsHand bs b h
standing_hand bs last b h place p there stands gives next here earlier made =
    let at : IsInputAt b.sources b.parts place h.next.input = subst (λ (n : ℕ). IsInputAt b.sources b.parts n h.next.input) here next.input in
    let source : p.input.source ≡ h.next.input.source = (let both : Some p.input.source ≡ Some h.next.input.source = sym stands.imports.numbered ∙ at.numbered in cc) in
    record {
      next = next;
      earlier = subst (λ (o : Option PartModel). IsEarlierPart bs (path_in h.next.input) o) (sym earlier)
          (subst (λ (q : PackageModel). IsEarlierPart bs q.0 (Some p)) source (subst (λ (o : Option PublishedBatch). IsPartIn o (path_in p.input) (Some p)) (sym there) stands.of_path));
      kept = λ said. absurd (true≢false (sym said ∙ made));
      stood = λ said. (last, there, record { part = p; was = subst (λ (n : ℕ). WasAt last.snapshot.parts n p) (sym here) stands.was; source = source; made = gives });
    }

-- the end of an action by its earlier part
pub kept_end : (bs : List PublishedBatch) (last : PublishedBatch) (b : BatchModel) (place number : ℕ) (p : PartModel) → last_of bs ≡ Some last → WasAt last.snapshot.parts place p → Awaits b place number p → IsKeptEnd bs b place number p
kept_end bs last b place number p there was awaits = (awaits, subst (λ (o : Option PublishedBatch). IsMoveOf o place p retolds.Same) (sym there) (record { of_part = p; there = was; is = refl }))

-- an action with an input that is made
pub new_hand : (bs : List PublishedBatch) (b : BatchModel) (h : Hand) → IsNext b h.next → IsEarlierPart bs (path_in h.next.input) h.earlier → h.kept ≡ false → h.stood ≡ false → IsHand bs b h
new_hand bs b h next earlier made apart = record { next = next; earlier = earlier; kept = λ said. absurd (true≢false (sym said ∙ made)); stood = λ said. absurd (true≢false (sym said ∙ apart)) }

-- what is published is what the batch compiled
pub published_sources : (before bs : List PublishedBatch) (r : Running) (b : BatchModel) → RunsOn before (Some r) → ArePublished before (with_batch r b) bs → sources_of bs ≡ r.batch.sources
published_sources before bs r b runs is = ap sources_of is.pushed ∙ fold_push (λ w (x : PublishedBatch). submitted w x.submissions) [] before (batch_of r.submissions is.snapshot) ∙ sym runs

planned_here : (bs : List PublishedBatch) (running : Option Running) (r : Running) (o : Option Planned) → IfSome o (λ p. (q : Running) × (running ≡ Some q) × IsPlanned q.batch.sources p.plan p.reached) → running ≡ Some r → sources_of bs ≡ r.batch.sources → IsPlannedFor bs o
planned_here bs running r None h is same = tt
planned_here bs running r (Some p) h is same =
    let one : h.0 ≡ r = some_same running h.0 r h.1 is in
    subst (λ (ps : List PackageModel). IsPlanned ps p.plan p.reached) (ap (λ (x : Running). x.batch.sources) one ∙ sym same) h.2

-- the batch that runs is published, and its plan is kept
pub planned_after : (bs : List PublishedBatch) (running : Option Running) (o : Option Planned) → IfSome o (λ p. (q : Running) × (running ≡ Some q) × IsPlanned q.batch.sources p.plan p.reached) → ((r : Running) × (running ≡ Some r) × (sources_of bs ≡ r.batch.sources)) → IsPlannedFor bs o
planned_after bs running o h is = planned_here bs running is.0 o h is.1 is.2

-- the same batch with other slots and parts
pub runs_with : (bs : List PublishedBatch) (o : Option Running) (r : Running) (slots : List Slot) (parts : List (Option PartModel)) → RunsOn bs o → o ≡ Some r → RunsOn bs (Some (with_batch r (batch_with r.batch.sources slots parts)))
runs_with bs o r slots parts runs is = subst (RunsOn bs) is runs

-- a batch that is formed
pub runs_formed : (s : Service) (r : Running) → IsFormed s r → RunsOn s.published (Some r)
runs_formed s r formed = formed.begun.sources ∙ ap (submitted (sources_of s.published)) (sym formed.submissions)

hand_known : (bs : List PublishedBatch) (b : BatchModel) (h : Hand) → IsHand bs b h → h.kept ≡ true → (p : PartModel) × (pb : PublishedBatch) × (last_of bs ≡ Some pb) × WasAt pb.snapshot.parts h.next.place p × (p.input ≡ h.next.awaited)
hand_known bs b h hand said =
    let k = hand.kept said in
    (k.0, k.3.0, k.3.1, k.3.2, k.2 ∙ sym hand.next.awaited)

hand_stands : (bs : List PublishedBatch) (b : BatchModel) (h : Hand) → IsHand bs b h → h.stood ≡ true → (pb : PublishedBatch) × (last_of bs ≡ Some pb) × IsStoodFor pb.snapshot h.next.place h.next.awaited
hand_stands bs b h hand said =
    let k = hand.stood said in
    (k.0, k.1, subst (IsStoodFor k.0.snapshot h.next.place) (sym hand.next.awaited) k.2)

place_said : (kept : Bool) (o : Option ℕ) (place n : ℕ) → o ≡ cond kept (Some place) None → o ≡ Some n → (kept ≡ true) × (n ≡ place)
place_said true o place n is e = (refl, (let both : Some n ≡ Some place = sym e ∙ is in cc))
place_said false o place n is e = absurd (let no : Some n ≡ None = sym e ∙ is in cc)

-- what an action says that is handed out
pub kept_action : (bs : List PublishedBatch) (b : BatchModel) (h : Hand) (a : Action) → IsHand bs b h → a.kept ≡ cond h.kept (Some h.next.place) None → a.earlier ≡ h.earlier → a.input ≡ h.next.input → IsKeptIf a h.next.place
kept_action bs b h a hand is earlier input n said =
    let k = place_said h.kept a.kept h.next.place n is said in
    let known = hand.kept k.0 in
    record { number = k.1; part = known.0; earlier = earlier ∙ known.1; input = known.2 ∙ sym input }

-- what is marked where an action is handed out
pub steady_hand : (bs : List PublishedBatch) (b : BatchModel) (st : Option SteadyModel) (h : Hand) (number : ℕ) → IsSteadyBeside bs b st → IsHand bs b h
    → IsSteadyBeside bs (batch_with b.sources (set b.slots h.next.place (Taken number h.next.awaited)) b.parts) (handed st h.next.place h.kept h.stood)
steady_hand bs b st h number is hand =
    let numbered = hand.next.input.numbered ∙ ap (λ (i : InputModel). Some i.source) (sym hand.next.awaited) in
    handed_of (last_of bs) b st h.next.place number h.next.awaited h.kept h.stood is hand.next.ready.untaken numbered (hand_known bs b h hand) (hand_stands bs b h hand)

-- what is marked where one is finished
pub steady_end : (bs : List PublishedBatch) (o : Option Running) (r : Running) (st : Option SteadyModel) (place : ℕ) (part : PartModel) (retold : Retold) (number : ℕ) → SteadyRuns bs o st → o ≡ Some r → Awaits r.batch place number part → IsMove bs place part retold → SteadyRuns bs (Some (with_batch r (with_part r.batch place part))) (finished st place retold)
steady_end bs o r st place part retold number is running awaits moves = finished_of (last_of bs) r.batch st place number part retold (subst (λ (x : Option Running). SteadyRuns bs x st) running is) awaits moves

-- what the marks say of the snapshot that a batch ended with

again_of : (o : Option PublishedBatch) (b : BatchModel) (st : Option SteadyModel) (t : SnapshotModel) → IsSteadyOf o b st → t.sources ≡ b.sources → t.parts ≡ b.parts → IsAgainOf o t st
again_of o b None t is sources parts = tt
again_of None b (Some m) t is sources parts = tt
again_of (Some p) b (Some m) t is sources parts =
    subst (λ (ps : List PackageModel). AreAgain p.snapshot ps t.parts m.kept) (sym sources) (subst (λ (l : List (Option PartModel)). AreAgain p.snapshot b.sources l m.kept) (sym parts) is.again)

again_last_of : (o : Option PublishedBatch) (b : BatchModel) (st : Option SteadyModel) (place number : ℕ) (part : PartModel) (t : SnapshotModel) → IsSteadyOf o b st → Awaits b place number part → t.sources ≡ b.sources → t.parts ≡ set b.parts place (Some part) → IsAgainOf o t st
again_last_of o b None place number part t is awaits sources parts = tt
again_last_of None b (Some m) place number part t is awaits sources parts = tt
again_last_of (Some p) b (Some m) place number part t is awaits sources parts =
    subst (λ (ps : List PackageModel). AreAgain p.snapshot ps t.parts m.kept) (sym sources)
    (subst (λ (l : List (Option PartModel)). AreAgain p.snapshot b.sources l m.kept) (sym parts) (again_finished p.snapshot b m place number part is awaits))

pub again_new : (bs : List PublishedBatch) (b : BatchModel) (st : Option SteadyModel) (t : SnapshotModel) → IsSteadyBeside bs b st → t.sources ≡ b.sources → t.parts ≡ b.parts → IsAgainBeside bs t st
again_new bs b st t is sources parts = again_of (last_of bs) b st t is sources parts

-- the same of the batch that runs, with its last part
pub again_last : (bs : List PublishedBatch) (o : Option Running) (r : Running) (st : Option SteadyModel) (place number : ℕ) (part : PartModel) (t : SnapshotModel) → SteadyRuns bs o st → o ≡ Some r → Awaits r.batch place number part → t.sources ≡ r.batch.sources
    → t.parts ≡ set r.batch.parts place (Some part) → IsAgainBeside bs t st
again_last bs o r st place number part t is running awaits sources parts = again_last_of (last_of bs) r.batch st place number part t (subst (λ (x : Option Running). SteadyRuns bs x st) running is) awaits sources parts

-- no mark says anything
leaves_none : (o : Option PublishedBatch) (s : SnapshotModel) → LeavesWhere o s []
leaves_none None s = tt
leaves_none (Some b) s = record { packages = λ n marked. absurd (cc); parts = λ n marked. absurd (cc) }

pub leaves_nothing : (bs : List PublishedBatch) (s : SnapshotModel) → LeavesWhere (last_of bs) s []
leaves_nothing bs s = leaves_none (last_of bs) s

-- marks and a snapshot that are there
pub again_there : (bs : List PublishedBatch) (st : Option SteadyModel) (m : SteadyModel) (last : PublishedBatch) (s : SnapshotModel) → IsAgainBeside bs s st → st ≡ Some m → last_of bs ≡ Some last → AreAgain last.snapshot s.sources s.parts m.kept
again_there bs st m last s is same there = subst (λ (o : Option PublishedBatch). IsAgainOf o s (Some m)) there (subst (λ (x : Option SteadyModel). IsAgainBeside bs s x) same is)
