use denote.Param.Send.{sendable}
use Rattle.go_thread_core.proofs.kept_snapshots_cross.Goals as goal
use Rattle.go_thread_core.proofs.Crossing.{kept_snapshot_row_send, kept_snapshot_row_sync}

pub is_shared_by_threads-requires-send-T : goal.is_shared_by_threads-requires-send-T
is_shared_by_threads-requires-send-T c κs = search (kept_snapshot_row_send, sendable)

pub is_shared_by_threads-requires-sync-T : goal.is_shared_by_threads-requires-sync-T
is_shared_by_threads-requires-sync-T c κs = search (kept_snapshot_row_sync, sendable)

pub returns : goal.returns
returns c = (kept_snapshot_row_send, kept_snapshot_row_sync)
