use Rattle.std.proofs.Common.{rules, ◌≡◌, None, subst, sym, List, ℕ, arith}
use Rattle.std.specs.Prelude.{MatchOption}
use Rattle.go_sched_core.specs.Prepared.{IsAllowed}
use Rattle.go_sched_core.specs.Service.{Service, empty, open_rule}
use Rattle.go_sched_core.specs.Steps.{Replay, Step}
use Rattle.go_sched_core.specs.declared.event.Event.{Event}
use Rattle.go_sched_core.specs.declared.event.Event.TheVariants.{Open}
use Rattle.go_board_core.specs.submit_core.declared.published.PublishedBatch.{PublishedBatch}
use Rattle.go_hall_core.specs.Kept.{IsRefusal, Kept}
use Rattle.go_hall_core.proofs.Lengths.{opened_few}
use Rattle.go_hall_core.proofs.Refusals.{open_refusal, open_refused}
use Rattle.go_hall_core.proofs.Rooms.{open_room}
use Rattle.go_hall_core.proofs.state.HallState.open.Goals as goal

pub returns-in-Err-clause-err : goal.returns-in-Err-clause-err
returns-in-Err-clause-err c =
    let refusal = open_refusal c.self.inside.core c.in-Ok-Ok.again c.in-Err.reply c.self.inside.core c.self.inside.stopped c.refused.result c.in-Err.ensures.err.0 c.refused.ensures in
    let mine = subst (λ (x : List ℕ). IsRefusal c.self.inside.stopped (open_rule c.self.inside.core x) c.refused.result) c.in-Ok-Ok.ensures' refusal in
    (search rules, subst (λ (k : Kept). IsRefusal k.stopped (open_rule k.service c.args.own) c.refused.result) c.self.view_is mine)

pub refused-requires : goal.refused-requires
refused-requires c = let is = open_refused c.self.inside.core c.in-Ok-Ok.again c.in-Err.reply c.self.inside.core c.in-Err.ensures.err.0 c.in-Err.ensures.err.1 in (is.0, is.1)

pub invariant_of-self-2 : goal.invariant_of-self-2
invariant_of-self-2 c =
    let s = c.self.inside.core in
    let t = c.committed-reply.new.core in
    let step = subst (λ (x : Service). Step x (Open c.args.own) c.committed-reply.result t) c.prepare.ensures.same c.committed-reply.ensures.step in
    let room = open_room s c.args.own c.committed-reply.result t step in
    (c.committed-reply.ensures.replays, subst (λ (p : List PublishedBatch). MatchOption c.self.inside.desk ⊥ (λ d. d.writer.desk.shown.value ≡ p)) (sym room.0) c.self.invariant.1, omega (arith, room.1, c.committed-reply.ensures.len, c.committed-reply.ensures.room, c.in-Ok-Ok.ensures.len, c.in-Ok-Ok.ensures.ok, c.in-Ok-Ok.ensures.capacity, c.sessions.ensures.count))

pub returns-clause-few : goal.returns-clause-few
returns-clause-few c =
    let s = c.self.inside.core in
    let held = c.reserve.new.self.items in
    let from = subst (λ (x : Service). IsAllowed x c.in-Ok.ready.event) c.in-Ok.ensures.ok.0 c.batches-allowed.ensures.allowed in
    let event = subst (λ (e : Event). IsAllowed s e) c.in-Ok.ensures.ok.1 from in
    let none = subst (λ (m : List ℕ). open_rule s m ≡ None) c.in-Ok-Ok.ensures' event in
    let run = subst (λ (h : List Event). Replay empty h s) (sym c.reserve.ensures.items) c.self.invariant.0 in
    opened_few held c.committed-reply.new.history.items (Open c.args.own) s c.args.own run none c.committed-reply.ensures.items
