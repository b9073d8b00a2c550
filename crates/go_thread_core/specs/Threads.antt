-- What may go to a thread (`IsSend`), and be seen by several at one time (`IsSync`), as the logic has the two.
use denote.Param.Send.{IsSend, IsSync}
use Rattle.go_report_core.specs.contracts.answer.site.Site as site
use Rattle.go_block_core.specs.graph_core.contracts.workspace.Workspace as workspace
use Rattle.go_submit_core.specs.contracts.history.kept.KeptSnapshot as kept_snapshot
use Rattle.go_object_core.specs.contracts.object.Object as object
use Rattle.go_submit_core.specs.package_core.contracts.package_part.input.PartInput as input
use Rattle.go_submit_core.specs.package_core.contracts.package_part.part.Part as part
use Rattle.go_submit_core.specs.package_core.contracts.package_part.parts.Parts as parts
use Rattle.go_snap_core.specs.contracts.snapshot.Snapshot as snapshot
use Rattle.go_snap_core.specs.contracts.shared.SharedSnapshot as shared_snapshot

abbrev pub WorkspacesCross : Type 0
WorkspacesCross = IsSend workspace.the_row × IsSync workspace.the_row

abbrev pub InputsCross : Type 0
InputsCross = IsSend input.the_row × IsSync input.the_row

abbrev pub SinglePartsCross : Type 0
SinglePartsCross = IsSend part.the_row × IsSync part.the_row

abbrev pub PartsCross : Type 0
PartsCross = IsSend parts.the_row × IsSync parts.the_row

abbrev pub SnapshotsCross : Type 0
SnapshotsCross = IsSend snapshot.the_row × IsSync snapshot.the_row

abbrev pub SharedSnapshotsCross : Type 0
SharedSnapshotsCross = IsSend shared_snapshot.the_row × IsSync shared_snapshot.the_row

abbrev pub KeptSnapshotsCross : Type 0
KeptSnapshotsCross = IsSend kept_snapshot.the_row × IsSync kept_snapshot.the_row

abbrev pub ObjectsCross : Type 0
ObjectsCross = IsSend (object.the_row site.the_row) × IsSync (object.the_row site.the_row)
