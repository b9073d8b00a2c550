use denote.Param.Send.{sendable}
use Rattle.go_body_core.proofs.crossing.uses_go.Goals as goal
use Rattle.go_body_core.proofs.CrossingCrossing.{use_row_send}

pub goes-requires-send-T : goal.goes-requires-send-T
goes-requires-send-T c κs = search (use_row_send, sendable)

pub returns : goal.returns
returns c = use_row_send
