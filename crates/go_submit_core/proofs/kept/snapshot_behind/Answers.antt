use Rattle.std.proofs.Common.{Option, sym, subst}
use Rattle.std.specs.Option.{option_copied}
use Rattle.go_snap_core.specs.Snapshots.{SnapshotModel}
use Rattle.go_snap_core.specs.Staying.{StaysWhere}
use Rattle.go_submit_core.specs.Published.{LeavesWhere}
use Rattle.go_submit_core.proofs.kept.snapshot_behind.Goals as goal

pub over-requires : goal.over-requires
over-requires c = subst (λ (s : SnapshotModel). StaysWhere s c.args.snapshot.now c.args.same.now) (sym c.snapshot.ensures) (subst (λ o. LeavesWhere (option_copied o) c.args.snapshot.now c.args.same.now) c.in-Some.is c.requires)
