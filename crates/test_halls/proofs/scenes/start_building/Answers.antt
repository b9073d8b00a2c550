use denote.Param.{param}
use denote.Param.Send.{sendable}
use Rattle.std.proofs.Crossing as std
use Rattle.govisd_service.proofs.Crossing.{hall_row_sync}
use Rattle.test_halls.proofs.scenes.start_building.Goals as goal

pub spawn-requires-send-F : goal.spawn-requires-send-F
spawn-requires-send-F g c κs within =
    let rt = c.type_bounds.sync-H in
    let hall = hall_row_sync (param 1 g.row.L) g.L.Named g.L.Ledger g.L.NamesBook in
    let alloc = std.send in
    search sendable depth 30
