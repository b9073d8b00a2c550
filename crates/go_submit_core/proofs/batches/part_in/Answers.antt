use Rattle.std.proofs.Common.{All, sym, subst}
use Rattle.go_graph_core.specs.Workspaces.{AreAllRead}
use Rattle.go_package_core.specs.package_part.Parts.{PartModel}
use Rattle.go_snap_core.specs.Snapshots.{IsPartAt, SnapshotModel}
use Rattle.go_submit_core.proofs.Sounds.{part_is_read}
use Rattle.go_submit_core.proofs.batches.part_in.Goals as goal

pub returns-in_ok-share-in-Some-clause-read : goal.returns-in_ok-share-in-Some-clause-read
returns-in_ok-share-in-Some-clause-read c =
    let all = subst (All AreAllRead) c.sources.ensures.value c.packages-packages.ensures.read in
    let read = part_is_read c.get-snapshot.result.now c.args.path.now c.in-Some.part.now all c.sources.ensures.whole c.in-Some.ensures in
    subst (λ (p : PartModel). AreAllRead p.input.source) (sym c.in_ok-share-in-Some.ensures) read

pub returns-in-None-clause-part : goal.returns-in-None-clause-part
returns-in-None-clause-part c = subst (λ (s : SnapshotModel). (p : PartModel) → IsPartAt s.sources s.parts c.args.path.now p → ⊥) c.get-snapshot.ensures c.in-None.ensures
