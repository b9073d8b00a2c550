use denote.Param.Send.{sendable}
use Rattle.go_body_core.proofs.crossing.faces_are_seen.Goals as goal
use Rattle.go_body_core.proofs.CrossingCrossing.{known_row_sync}

pub is_seen-requires-sync-T : goal.is_seen-requires-sync-T
is_seen-requires-sync-T c κs = search (known_row_sync, sendable)

pub returns : goal.returns
returns c = known_row_sync
