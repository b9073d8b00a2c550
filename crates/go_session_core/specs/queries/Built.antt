-- What a build answers.
use Rattle.std.specs.Prelude.{◌≡◌, ◌≤◌, ℕ, if◌then◌else◌, List, length, take, Option, Some, None, slice_get}
use Rattle.std.specs.List.{filter_map}
use Rattle.go_graph_core.specs.Sources.{SourceModel}
use Rattle.go_graph_core.specs.Workspaces.{PackageModel, is_path_inside, packages_inside}
use Rattle.go_complete_core.specs.snap_core.declared.fault.PlacedFault.{PlacedFault}
use Rattle.go_complete_core.specs.snap_core.Snapshots.{SnapshotModel}
use Rattle.go_board_core.specs.submit_core.Published.{IsOneWorker, sources_of}
use Rattle.go_board_core.specs.submit_core.Trees.{TreeModel}
use Rattle.go_board_core.specs.submit_core.declared.published.PublishedBatch.{PublishedBatch}
use Rattle.go_session_core.specs.declared.queries.faults.Fault.{Fault}

-- a fault in this file of the package of a path, with their names
abbrev pub named_in : List ℕ → Option SourceModel → PlacedFault → Option Fault
named_in path None f = None
named_in path (Some s) f = Some (record { path = path; file = s.name; offset = f.offset; rule = f.rule })

-- in this package, if it lies inside the module
abbrev pub named_of : List ℕ → Option PackageModel → PlacedFault → Option Fault
named_of own None f = None
named_of own (Some p) f = if is_path_inside own p.0 then named_in p.0 (slice_get p.1 f.file) f else None

-- the faults in the packages inside a module, in the same order
abbrev pub faults_inside : List ℕ → List PackageModel → List PlacedFault → List Fault
faults_inside own ps fs = filter_map (λ (f : PlacedFault). named_of own (slice_get ps f.«package») f) fs

-- there are so many batches; after them the packages of the tree's module are those of the tree; and these are the faults in them, by the snapshot that
-- one worker gives of those batches
pub record IsBuilt (board : List PublishedBatch) (tree : TreeModel) (batch : ℕ) (faults : List Fault) : Type 0 where
  pub within : batch ≤ length board
  pub tree_is : packages_inside tree.own (sources_of (take batch board)) ≡ tree.packages
  pub snapshot : SnapshotModel
  pub one_worker : IsOneWorker (sources_of (take batch board)) snapshot
  pub faults_are : faults ≡ faults_inside tree.own snapshot.sources snapshot.faults
