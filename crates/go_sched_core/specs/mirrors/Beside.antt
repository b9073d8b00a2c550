-- What the core keeps beside its state: the plan of what is published, and what of the last snapshot is as it was in the batch that runs.
use Rattle.std.specs.Prelude.{◌≡◌, ℕ, Bool, List, Option, Some, None, ⊤, slice_set}
use Rattle.go_graph_core.specs.Workspaces.{PackageModel}
use Rattle.go_submit_core.specs.package_core.PackagePartParts.{PartModel}
use Rattle.go_submit_core.specs.snap_core.Snapshots.{SnapshotModel}
use Rattle.go_submit_core.specs.Published.{last_of, sources_of}
use Rattle.go_submit_core.specs.declared.published.PublishedBatch.{PublishedBatch}
use Rattle.go_batch_core.specs.Batches.{Awaits, BatchModel}
use Rattle.go_batch_core.specs.Planning.{IsPlanned}
use Rattle.go_batch_core.specs.Steadiness.{AreAgain, BeginsSteady, IsRetold, IsSteady, SteadyModel, WasAt, is_moved, is_retyped, steady_with}
use Rattle.go_batch_core.specs.declared.retold.Retold.{Retold}
use Rattle.go_batch_core.specs.declared.retold.Retold.TheVariants as retolds
use Rattle.go_batch_core.specs.declared.planned.Planned.{Planned}
use Rattle.go_sched_core.specs.declared.running.Running.{Running}

-- the marks of a batch beside the snapshot of the last published batch
abbrev pub IsSteadyOf : Option PublishedBatch → BatchModel → Option SteadyModel → Type 0
IsSteadyOf last b None = ⊤
IsSteadyOf None b (Some m) = ⊥
IsSteadyOf (Some p) b (Some m) = IsSteady p.snapshot b m

abbrev pub IsSteadyBeside : List PublishedBatch → BatchModel → Option SteadyModel → Type 0
IsSteadyBeside bs b m = IsSteadyOf (last_of bs) b m

-- those of a batch of these packages of which nothing is done yet
abbrev pub BeginsOf : Option PublishedBatch → List PackageModel → Option SteadyModel → Type 0
BeginsOf last ps None = ⊤
BeginsOf None ps (Some m) = ⊥
BeginsOf (Some p) ps (Some m) = BeginsSteady p.snapshot.sources ps m

abbrev pub BeginsBeside : List PublishedBatch → List PackageModel → Option SteadyModel → Type 0
BeginsBeside bs ps m = BeginsOf (last_of bs) ps m

-- those of the batch that runs
abbrev pub SteadyRuns : List PublishedBatch → Option Running → Option SteadyModel → Type 0
SteadyRuns bs None m = ⊤
SteadyRuns bs (Some r) m = IsSteadyBeside bs r.batch m

-- what the marks say of a snapshot beside the one of the last published batch
abbrev pub IsAgainOf : Option PublishedBatch → SnapshotModel → Option SteadyModel → Type 0
IsAgainOf last s None = ⊤
IsAgainOf None s (Some m) = ⊤
IsAgainOf (Some p) s (Some m) = AreAgain p.snapshot s.sources s.parts m.kept

abbrev pub IsAgainBeside : List PublishedBatch → SnapshotModel → Option SteadyModel → Type 0
IsAgainBeside bs s m = IsAgainOf (last_of bs) s m

-- the plan of all that is published
abbrev pub IsPlannedFor : List PublishedBatch → Option Planned → Type 0
IsPlannedFor bs None = ⊤
IsPlannedFor bs (Some p) = IsPlanned (sources_of bs) p.plan p.reached

-- what a part tells beside what the last published one of a number told
abbrev pub IsMoveOf : Option PublishedBatch → ℕ → PartModel → Retold → Type 0
IsMoveOf None place part retold = retold ≡ retolds.OtherTypes
IsMoveOf (Some b) place part retold = IsRetold retold b.snapshot.parts place part

abbrev pub IsMove : List PublishedBatch → ℕ → PartModel → Retold → Type 0
IsMove bs place part retold = IsMoveOf (last_of bs) place part retold

-- the last published part of the package of a number
abbrev pub IsLastAt : List PublishedBatch → ℕ → PartModel → Type 0
IsLastAt bs place p = (b : PublishedBatch) × (last_of bs ≡ Some b) × WasAt b.snapshot.parts place p

-- an action that was taken under a number ends by the last published part of its package
abbrev pub IsKeptEnd : List PublishedBatch → BatchModel → ℕ → ℕ → PartModel → Type 0
IsKeptEnd bs b place number p = Awaits b place number p × IsMove bs place p retolds.Same

-- the marks where an action is handed out, and where it is finished

abbrev pub handed : Option SteadyModel → ℕ → Bool → Bool → Option SteadyModel
handed None place kept stood = None
handed (Some m) place kept stood = Some (steady_with m.same m.moved m.retyped (slice_set m.kept place kept) (slice_set m.stood place stood))

abbrev pub finished : Option SteadyModel → ℕ → Retold → Option SteadyModel
finished None place retold = None
finished (Some m) place retold = Some (steady_with m.same (slice_set m.moved place (is_moved retold)) (slice_set m.retyped place (is_retyped retold)) m.kept m.stood)
