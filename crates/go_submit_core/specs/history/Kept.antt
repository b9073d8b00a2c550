-- Snapshots that are kept, as they are stored.
use Rattle.std.specs.Prelude.{List, Option, All}
use Rattle.go_graph_core.specs.Workspaces.{AreAllRead, IsWorkspace, PackageModel}
use Rattle.go_package_core.specs.package_part.Parts.{PartModel}
use Rattle.go_snap_core.specs.declared.fault.PlacedFault.{PlacedFault}
use Rattle.go_snap_core.specs.Snapshots.{IsSnapshot}

-- packages of a workspace, of which each file is read, with their parts and all faults
pub record IsKept (ps : List PackageModel) (parts : List (Option PartModel)) (faults : List PlacedFault) : Type 0 where
  pub workspace : IsWorkspace ps
  pub read : All AreAllRead ps
  pub snapshot : IsSnapshot ps parts faults
