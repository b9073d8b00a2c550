-- Doors may be seen by several threads.
use denote.Param.Send.{IsSync, sendable}
use Rattle.std.proofs.Crossing as std
use Rattle.std.proofs.sync.atomic.AtomicU64.TheSendSync as atomic
use Rattle.test_halls.specs.contracts.doors.Doors as doors

pub doors_row_sync : IsSync doors.the_row
doors_row_sync = search (atomic.the_sync, std.crosses, sendable) depth 30
