-- A hall may go to a thread and be seen by several, with all that it holds: from the events of a service up.
use denote.RattleType.{RattleType}
use denote.Param.Send.{IsSend, IsSync, sendable}
use Rattle.std.specs.declared.sync.ledger.Ledger as ledger
use Rattle.std.proofs.Crossing as std
use Rattle.std.proofs.collections.LinkedList.TheSendSync as list
use Rattle.std.proofs.sync.atomic.AtomicU64.TheSendSync as atomic
use Rattle.std.proofs.sync.ledger.Book.TheSendSync as book
use Rattle.std.proofs.sync.ledger.Share.TheSendSync as share
use Rattle.left_right.proofs.reader.Reader.TheSendSync as reader
use Rattle.left_right.proofs.writer.Writer.TheSendSync as writer
use Rattle.logbook.proofs.tokens.Seen.TheSendSync as seen
use Rattle.logbook.proofs.word.Word.TheSendSync as word
use Rattle.go_thread_core.proofs.Crossing.{crossing, leaves, summary_list_row_send, summary_list_row_sync}
use Rattle.go_graph_core.specs.contracts.planning.Plan as plan
use Rattle.go_digraph_core.specs.contracts.reach.graph.Reached as reached
use Rattle.go_digraph_core.specs.contracts.ready_queue.turns.Turns as turns
use Rattle.go_hall.specs.hall_core.declared.stamping.book.NamesBook as stamps
use Rattle.go_hall.specs.hall_core.contracts.stamping.stamp.Stamper as stamper
use Rattle.go_hall.specs.batch_core.contracts.planned.SharedReached as shared_reached
use Rattle.go_hall.specs.batch_core.contracts.planned.Planned as planned
use Rattle.go_hall.specs.batch_core.contracts.steady.Steady as steady
use Rattle.go_hall.specs.batch_core.contracts.tell.Tell as tell
use Rattle.go_hall.specs.batch_core.contracts.slot.Slot as slot
use Rattle.go_hall.specs.batch_core.contracts.batch.Batch as batch
use Rattle.go_board_core.specs.submit_core.contracts.batches.Batches as batches
use Rattle.go_board_core.specs.submit_core.contracts.list.BatchList as batch_list
use Rattle.go_board_core.specs.submit_core.contracts.module_list.ModuleList as module_list
use Rattle.go_board_core.specs.submit_core.contracts.piece.Piece as batch_piece
use Rattle.go_board_core.specs.submit_core.contracts.piece.SharedBatch as shared_batch
use Rattle.go_board_core.specs.submit_core.contracts.published.PublishedBatch as published_batch
use Rattle.go_hall.specs.sched_core.contracts.event.Event as event
use Rattle.go_hall.specs.sched_core.contracts.event.Held as held
use Rattle.go_hall.specs.sched_core.contracts.running.Running as running
use Rattle.go_hall.specs.sched_core.contracts.machine.Core as core
use Rattle.go_board_core.specs.contracts.board.Board as board
use Rattle.go_hall.specs.hall_core.contracts.desk.Desk as desk
use Rattle.go_hall.specs.hall_core.contracts.state.HallState as state
use Rattle.go_hall.specs.hall_core.contracts.counted.Counted as counted
use Rattle.go_hall.specs.hall_core.declared.counted.Named as named
use Rattle.go_hall.specs.contracts.hall.Hall as hall

ruleset below = (summary_list_row_send, summary_list_row_sync, crossing, std.crosses)

event_row_send : IsSend event.the_row
event_row_send = search (below, sendable) depth 60 fits 20000

held_row_send : IsSend held.the_row
held_row_send = search (below, sendable) depth 60 fits 20000

plan_row_send : IsSend plan.the_row
plan_row_send = search (crossing, leaves, std.crosses, sendable) depth 60 fits 20000

reached_row_send : IsSend reached.the_row
reached_row_send = search (crossing, std.crosses, sendable) depth 60 fits 20000

reached_row_sync : IsSync reached.the_row
reached_row_sync = search (crossing, std.crosses, sendable) depth 60 fits 20000

shared_reached_row_send : IsSend shared_reached.the_row
shared_reached_row_send = search (reached_row_send, reached_row_sync, std.crosses, sendable) depth 60 fits 20000

planned_row_send : IsSend planned.the_row
planned_row_send = search (plan_row_send, shared_reached_row_send, std.crosses, sendable) depth 60 fits 20000

steady_row_send : IsSend steady.the_row
steady_row_send = search (std.crosses, sendable) depth 60 fits 20000

tell_row_send : IsSend tell.the_row
tell_row_send = search (crossing, std.crosses, sendable) depth 60 fits 20000

turns_row_send : IsSend turns.the_row
turns_row_send = search (crossing, std.crosses, sendable) depth 60 fits 20000

slot_row_send : IsSend slot.the_row
slot_row_send = search (crossing, std.crosses, sendable) depth 60 fits 20000

batch_row_send : IsSend batch.the_row
batch_row_send = search (plan_row_send, shared_reached_row_send, turns_row_send, slot_row_send, tell_row_send, below, sendable) depth 60 fits 20000

running_row_send : IsSend running.the_row
running_row_send = search (batch_row_send, below, sendable) depth 60 fits 20000

shared_batch_row_send : IsSend shared_batch.the_row
shared_batch_row_send = search (below, sendable) depth 60 fits 20000

shared_batch_row_sync : IsSync shared_batch.the_row
shared_batch_row_sync = search (below, sendable) depth 60 fits 20000

batch_piece_row_send : IsSend batch_piece.the_row
batch_piece_row_send = search (shared_batch_row_send, shared_batch_row_sync, std.crosses, sendable) depth 60 fits 20000

batch_piece_row_sync : IsSync batch_piece.the_row
batch_piece_row_sync = search (shared_batch_row_send, shared_batch_row_sync, std.crosses, sendable) depth 60 fits 20000

batch_list_row_send : IsSend batch_list.the_row
batch_list_row_send = search (batch_piece_row_send, batch_piece_row_sync, shared_batch_row_send, std.crosses, sendable) depth 60 fits 20000

batch_list_row_sync : IsSync batch_list.the_row
batch_list_row_sync = search (batch_piece_row_send, batch_piece_row_sync, shared_batch_row_sync, std.crosses, sendable) depth 60 fits 20000

module_list_row_send : IsSend module_list.the_row
module_list_row_send = search (crossing, std.crosses, sendable) depth 60 fits 20000

module_list_row_sync : IsSync module_list.the_row
module_list_row_sync = search (crossing, std.crosses, sendable) depth 60 fits 20000

published_batch_row_send : IsSend published_batch.the_row
published_batch_row_send = search (below, sendable) depth 60 fits 20000

published_batch_row_sync : IsSync published_batch.the_row
published_batch_row_sync = search (below, sendable) depth 60 fits 20000

batches_row_send : IsSend batches.the_row
batches_row_send = search (batch_list_row_send, batch_list_row_sync, published_batch_row_send, published_batch_row_sync, module_list_row_send, module_list_row_sync, std.crosses, sendable) depth 60 fits 20000

batches_row_sync : IsSync batches.the_row
batches_row_sync = search (batch_list_row_send, batch_list_row_sync, published_batch_row_send, published_batch_row_sync, module_list_row_send, module_list_row_sync, std.crosses, sendable) depth 60 fits 20000

core_row_send : IsSend core.the_row
core_row_send = search (list.the_send, held_row_send, running_row_send, batches_row_send, planned_row_send, steady_row_send, below, sendable) depth 60 fits 20000

board_row_send : IsSend board.the_row
board_row_send = search (batches_row_send, sendable) depth 20

board_row_sync : IsSync board.the_row
board_row_sync = search (batches_row_sync, sendable) depth 20

desk_row_send : IsSend desk.the_row
desk_row_send = search (writer.the_field_send, board_row_send, board_row_sync, std.frees, std.send, std.sync, sendable) depth 60 fits 20000

state_row_send : IsSend state.the_row
state_row_send = search (event_row_send, core_row_send, desk_row_send, reader.the_send, reader.the_field_send, board_row_sync, std.crosses, sendable) depth 60 fits 20000

-- under each name of a ledger, and of a book of stamps
module _ (L : RattleType) (n : named.Ghosts L.Denot) (l : ledger.Ghosts L.Denot) (b : stamps.Ghosts L.Denot) where
  stamper_row_send : (T : RattleType) → IsSend (stamper.the_row L T b)
  stamper_row_send T = search (word.the_send, seen.the_send, sendable) depth 30

  counted_row_send : IsSend (counted.the_row L n l b)
  counted_row_send = search (state_row_send, book.the_send, share.the_send, stamper_row_send, sendable) depth 30

  pub hall_row_send : IsSend (hall.the_row L n l b)
  hall_row_send = search (counted_row_send, atomic.the_send, std.crosses, sendable) depth 30

  pub hall_row_sync : IsSync (hall.the_row L n l b)
  hall_row_sync = search (counted_row_send, atomic.the_sync, std.crosses, sendable) depth 30

  pub hall_sync : IsSync (hall.the_field L n l b).row
  hall_sync = search (counted_row_send, atomic.the_sync, std.crosses, sendable) depth 30
