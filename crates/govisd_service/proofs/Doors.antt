-- What the connections of a daemon share may be seen by several threads.
use denote.Param.Send.{IsSync, sendable}
use Rattle.std.proofs.Crossing as std
use Rattle.std.proofs.sync.atomic.AtomicU64.TheSendSync as atomic
use Rattle.govisd_service.specs.contracts.door.Door as door

pub door_row_sync : IsSync door.the_row
door_row_sync = search (atomic.the_send, atomic.the_sync, std.crosses, sendable) depth 60 fits 20000
