use denote.Param.Send.{sendable}
use Rattle.go_body_core.proofs.crossing.trees_are_seen.Goals as goal
use Rattle.go_body_core.proofs.CrossingCrossing.{top_decl_row_sync}

pub is_seen-requires-sync-T : goal.is_seen-requires-sync-T
is_seen-requires-sync-T c κs = search (top_decl_row_sync, sendable)

pub returns : goal.returns
returns c = top_decl_row_sync
