-- Exactly one snapshot of each workspace, and a snapshot of whatever texts are put as files into packages.
--
-- docs/RULES.md, "Whole workspaces".
use Rattle.std.specs.Prelude.{◌≡◌, List}
use Rattle.go_graph_core.specs.Workspaces.{IsReadWorkspace, IsWorkspace, PackageModel}
use Rattle.go_snap_core.specs.Snapshots.{SnapshotModel}
use Rattle.go_submit_core.specs.Published.{IsOneWorker}
use Rattle.go_exists_laws.specs.Texts.{AreWritten, Written, written_of}

-- each workspace has a snapshot that one worker gives of it, and no second
abbrev pub EachWorkspaceHasOneSnapshot : Type 0
EachWorkspaceHasOneSnapshot = (ps : List PackageModel) → IsWorkspace ps → (s : SnapshotModel) × IsOneWorker ps s × ((t : SnapshotModel) → IsOneWorker ps t → s ≡ t)

-- whatever is written of packages, one worker gives a snapshot of a workspace of which that is written, and of which each file is read
abbrev pub TextsMakeASnapshot : Type 0
TextsMakeASnapshot = (ws : List Written) → AreWritten ws → (ps : List PackageModel) × IsReadWorkspace ps × (written_of ps ≡ ws) × ((s : SnapshotModel) × IsOneWorker ps s)
