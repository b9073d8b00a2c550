use denote.Param.{param}
use denote.Param.Send.{sendable}
use Rattle.std.proofs.Crossing as std
use Rattle.govisd_service.proofs.Crossing.{hall_row_sync}
use Rattle.govisd_service.proofs.Doors.{door_row_sync}
use Rattle.govisd_service.proofs.connections.take_in.Goals as goal

pub spawn_scoped-requires-send-F : goal.spawn_scoped-requires-send-F
spawn_scoped-requires-send-F g c κs within =
    let rt = c.type_bounds.sync-H in
    let hall = hall_row_sync (param 1 g.row.L) g.L.Named g.L.Ledger g.L.NamesBook in
    let door = door_row_sync in
    let stream = c.type_bounds.send-S in
    let alloc = std.send in
    search sendable depth 30
