-- There is one, and no second.
use Rattle.std.proofs.Common.{List, refl}
use Rattle.go_graph_core.specs.Workspaces.{IsWorkspace, PackageModel}
use Rattle.go_package_core.specs.Laws.{OneCheck}
use Rattle.go_package_core.specs.package_part.Laws.{OnePart}
use Rattle.go_snap_core.specs.Snapshots.{SnapshotModel, snapshot_with}
use Rattle.go_submit_core.specs.Laws.{OneWorker}
use Rattle.go_submit_core.specs.Published.{IsOneWorker}
use Rattle.go_workspace_laws.specs.existence.Laws.{InputsHaveParts, PackagesHaveChecks, WorkspacesHaveSnapshots}
use Rattle.go_exists_laws.specs.Packages.{EachInputHasOnePart, EachPackageHasOneCheck}
use Rattle.go_exists_laws.specs.Workspaces.{EachWorkspaceHasOneSnapshot, TextsMakeASnapshot}
use Rattle.go_exists_laws.proofs.Files.{texts_make_a_workspace}

pub one_of_package : PackagesHaveChecks → OneCheck → EachPackageHasOneCheck
one_of_package have one p far placed = (let c = have p far placed in (c.0, c.1, (λ d is. one p far c.0 d placed c.1 is)))

pub one_of_input : InputsHaveParts → OnePart → EachInputHasOnePart
one_of_input have one i placed = (let c = have i placed in (c.0, c.1, (λ d is. one i c.0 d placed c.1 is)))

given : WorkspacesHaveSnapshots → (ps : List PackageModel) → IsWorkspace ps → (s : SnapshotModel) × IsOneWorker ps s
given have ps well = (let s = have ps well in (snapshot_with ps s.0 s.1, record { sources = refl; whole = s.2 }))

pub one_of_workspace : WorkspacesHaveSnapshots → OneWorker → EachWorkspaceHasOneSnapshot
one_of_workspace have one ps well = (let s = given have ps well in (s.0, s.1, (λ t is. one ps s.0 t well s.1 is)))

pub one_of_texts : WorkspacesHaveSnapshots → TextsMakeASnapshot
one_of_texts have ws are = (let w = texts_make_a_workspace ws are in (w.0, w.1, w.2, given have w.0 w.1.well))
