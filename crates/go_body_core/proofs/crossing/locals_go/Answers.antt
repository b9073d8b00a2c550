use denote.Param.Send.{sendable}
use Rattle.go_body_core.proofs.crossing.locals_go.Goals as goal
use Rattle.go_body_core.proofs.CrossingCrossing.{local_row_send}

pub goes-requires-send-T : goal.goes-requires-send-T
goes-requires-send-T c κs = search (local_row_send, sendable)

pub returns : goal.returns
returns c = local_row_send
