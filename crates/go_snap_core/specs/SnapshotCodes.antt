-- How snapshots are stored, so that a model may hold one.
use Rattle.std.specs.Coded.{Coded}
use Rattle.go_snap_core.specs.contracts.snapshot.Snapshot as snapshot
use Rattle.go_snap_core.specs.Snapshots.{SnapshotModel}

abbrev pub coded_snapshot : Coded SnapshotModel
coded_snapshot = snapshot.the_row.coded
