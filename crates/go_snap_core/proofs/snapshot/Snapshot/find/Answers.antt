use Rattle.std.proofs.Common.{subst}
use Rattle.go_graph_core.specs.Workspaces.{IsWorkspace}
use Rattle.go_snap_core.proofs.Finding.{part_searched}
use Rattle.go_snap_core.proofs.snapshot.Snapshot.find.Goals as goal

pub returns-clause-well : goal.returns-clause-well
returns-clause-well c = subst IsWorkspace c.sources.ensures.value c.part_of.ensures.well

pub returns-clause-part : goal.returns-clause-part
returns-clause-part c =
    part_searched c.args.self.now.sources c.sources.result.now c.args.self.now.parts c.parts.result.now c.args.path.now c.as_str.result.now c.part_of.result
    c.sources.ensures.value c.parts.ensures c.as_str.ensures.text c.part_of.ensures.part
