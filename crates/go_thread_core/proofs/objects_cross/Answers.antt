use denote.Param.Send.{sendable}
use Rattle.go_thread_core.proofs.objects_cross.Goals as goal
use Rattle.go_thread_core.proofs.Crossing.{object_row_send, object_row_sync}

pub is_shared_by_threads-requires-send-T : goal.is_shared_by_threads-requires-send-T
is_shared_by_threads-requires-send-T c κs = search (object_row_send, sendable)

pub is_shared_by_threads-requires-sync-T : goal.is_shared_by_threads-requires-sync-T
is_shared_by_threads-requires-sync-T c κs = search (object_row_sync, sendable)

pub returns : goal.returns
returns c = (object_row_send, object_row_sync)
