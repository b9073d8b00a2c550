-- What published batches come to.
use Rattle.std.specs.Prelude.{◌≡◌, ℕ, ◌+◌, ◌-◌, Bool, if◌then◌else◌, List, [], ◌∷◌, ◌++◌, length, Option, Some, None, MatchOption, ⊤, slice_get, take}
use Rattle.std.specs.List.{fold}
use Rattle.go_graph_core.specs.Workspaces.{PackageModel}
use Rattle.go_package_core.specs.package_part.Parts.{PartModel}
use Rattle.go_snap_core.specs.Snapshots.{IsPartAt, IsSnapshot, SnapshotModel}
use Rattle.go_snap_core.specs.Staying.{StaysWhere}
use Rattle.go_submit_core.specs.Modules.{with_trees}
use Rattle.go_submit_core.specs.Submitted.{has_ticket, submitted}
use Rattle.go_submit_core.specs.declared.submission.Submission.{Submission}
use Rattle.go_submit_core.specs.declared.published.PublishedBatch.{PublishedBatch}

abbrev pub batch_of : List Submission → SnapshotModel → PublishedBatch
batch_of submissions snapshot = record { submissions = submissions; snapshot = snapshot }

-- the packages of all that is published: each batch puts its trees in the place of their modules' packages
abbrev pub sources_of : List PublishedBatch → List PackageModel
sources_of bs = fold (λ w b. submitted w b.submissions) [] bs

-- the modules of which a submission is published, each once
abbrev pub modules_of : List PublishedBatch → List (List ℕ)
modules_of bs = fold (λ ms b. with_trees ms b.submissions) [] bs

-- the snapshot that one worker gives of these packages
pub record IsOneWorker (ps : List PackageModel) (s : SnapshotModel) : Type 0 where
  pub sources : s.sources ≡ ps
  pub whole : IsSnapshot s.sources s.parts s.faults

-- each snapshot is what one worker gives of the batches up to it
pub record AreSound (bs : List PublishedBatch) : Type 0 where
  pub each : (k : ℕ) (b : PublishedBatch) → slice_get bs k ≡ Some b → IsOneWorker (sources_of (take (k + 1) bs)) b.snapshot

abbrev pub last_of : List PublishedBatch → Option PublishedBatch
last_of bs = slice_get bs (length bs - 1)

-- where marked, the package of a number and its part are those of that number in the last batch, if there is one
abbrev pub LeavesWhere : Option PublishedBatch → SnapshotModel → List Bool → Type 0
LeavesWhere None s same = ⊤
LeavesWhere (Some b) s same = StaysWhere b.snapshot s same

-- the part of the package of a path in a snapshot, if there is one
abbrev pub IsFoundIn : SnapshotModel → List ℕ → Option PartModel → Type 0
IsFoundIn s path found = MatchOption found ((p : PartModel) → ¬ IsPartAt s.sources s.parts path p) (λ p. IsPartAt s.sources s.parts path p)

-- the same of the snapshot of a batch
abbrev pub IsPartIn : Option PublishedBatch → List ℕ → Option PartModel → Type 0
IsPartIn None path found = found ≡ None
IsPartIn (Some b) path found = IsFoundIn b.snapshot path found

-- the last published part of the package of a path
abbrev pub IsEarlierPart : List PublishedBatch → List ℕ → Option PartModel → Type 0
IsEarlierPart bs path found = IsPartIn (last_of bs) path found

-- the number of the last batch that has a ticket, where the batches have the numbers behind k
abbrev pub number_behind : ℕ → ℕ → List PublishedBatch → Option ℕ → Option ℕ
number_behind n k [] found = found
number_behind n k (b ∷ bs) found = number_behind n (k + 1) bs (if has_ticket n b.submissions then Some (k + 1) else found)

abbrev pub number_of : ℕ → List PublishedBatch → Option ℕ
number_of n bs = number_behind n 0 bs None

-- the batches begin with these
abbrev pub BeginsWith : List PublishedBatch → List PublishedBatch → Type 0
BeginsWith whole front = (rest : List PublishedBatch) × (whole ≡ front ++ rest)
