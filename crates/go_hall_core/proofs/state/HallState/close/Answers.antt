use Rattle.std.proofs.Common.{rules, ◌≡◌, List, sym, subst, arith}
use Rattle.std.specs.Prelude.{MatchOption}
use Rattle.go_sched_core.specs.Steps.{Step}
use Rattle.go_sched_core.specs.declared.event.Event.TheVariants.{Close}
use Rattle.go_board_core.specs.submit_core.declared.published.PublishedBatch.{PublishedBatch}
use Rattle.go_hall_core.proofs.Rooms.{closed_room}
use Rattle.go_hall_core.proofs.state.HallState.close.Goals as goal

pub invariant_of-self-2 : goal.invariant_of-self-2
invariant_of-self-2 c =
    let s = c.self.inside.core in
    let t = c.committed.new.core in
    let step : Step s (Close c.args.id) c.committed.result t = search rules in
    let room = closed_room s c.in-Ok.ready.from c.args.id c.in-Ok.ready.event c.committed.result t step c.batches-allowed.ensures.allowed c.in-Ok.ensures.ok.0 c.in-Ok.ensures.ok.1 in
    (c.committed.ensures.replays, subst (λ (p : List PublishedBatch). MatchOption c.self.inside.desk ⊥ (λ d. d.writer.desk.shown.value ≡ p)) (sym room.0) c.self.invariant.1, omega (arith, room.1, c.committed.ensures.len, c.committed.ensures.room, c.self.invariant.2))
