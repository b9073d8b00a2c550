use Rattle.std.proofs.Common.{◌≡◌, ◌+◌, [], Option, Some, refl, sym, ap, ◌∙◌, subst}
use Rattle.std.specs.Prelude.{slice_set}
use Rattle.go_batch_core.specs.Batches.{batch_with}
use Rattle.go_batch_core.specs.Steadiness.{SteadyModel}
use Rattle.go_batch_core.specs.declared.slot.Slot.TheVariants.{Taken}
use Rattle.go_sched_core.specs.Service.{Service, counted}
use Rattle.go_sched_core.specs.Steps.{with_batch}
use Rattle.go_sched_core.specs.declared.event.Action.{Action}
use Rattle.go_sched_core.specs.declared.running.Running.{Running}
use Rattle.go_sched_core.specs.mirrors.Beside.{IsSteadyBeside, SteadyRuns}
use Rattle.go_sched_core.specs.mirrors.Fitting.{IsHand}
use Rattle.go_sched_core.specs.mirrors.Kept.{RunsOn}
use Rattle.go_sched_core.proofs.Begun.{begun_record, begun_step, begun_with}
use Rattle.go_sched_core.proofs.Marking.{runs_formed, steady_hand}
use Rattle.go_sched_core.proofs.machine.Core.commit_begin.Goals as goal

pub invariant_of-self : goal.invariant_of-self
invariant_of-self c =
    let i = c.self.inside in
    let r = c.args.running in
    let h = c.args.hand in
    let hand : IsHand i.published r.batch h = subst (λ (x : Service). IsHand x.published r.batch h) (sym c.self.view_is) c.requires.hand in
    let steady : IsSteadyBeside i.published r.batch c.args.steady = subst (λ (x : Service). IsSteadyBeside x.published r.batch c.args.steady) (sym c.self.view_is) c.requires.steady_is in
    let runs : RunsOn i.published (Some r) = subst (λ (x : Service). RunsOn x.published (Some r)) (sym c.self.view_is) (runs_formed c.args.self.now r c.requires.begins.formed) in
    let slots = slice_set r.batch.slots h.next.place (Taken (i.actions + 1) h.next.awaited) in
    let after = batch_with r.batch.sources slots r.batch.parts in
    record {
      few = c.self.invariant.few;
      has_room = c.self.invariant.has_room;
      runs = subst (λ (x : Running). RunsOn i.published (Some x)) (sym c.hand_out_of.ensures) runs;
      plans = c.self.invariant.plans;
      steady_is = subst (λ (x : Running). SteadyRuns i.published (Some x) c.mark_handed.new.steady) (sym c.hand_out_of.ensures)
          (subst (λ (st : Option SteadyModel). SteadyRuns i.published (Some (with_batch r after)) st) (sym c.mark_handed.ensures)
          (steady_hand i.published r.batch c.args.steady h (i.actions + 1) steady hand));
    }

pub returns-clause-step : goal.returns-clause-step
returns-clause-step c =
    let s : Service = c.args.self.now in
    let i = c.self.inside in
    let r = c.args.running in
    let h = c.args.hand in
    let V : Service = record { accepted = i.accepted; opened = i.opened; held = i.held.items; tickets = i.tickets; waiting = i.waiting; generations = i.generations; actions = i.actions; running = i.running; published = i.published } in
    let number = i.actions + 1 in
    let a : Action = record { generation = c.hand_out_of.new.running.generation; number = number; input = h.next.input; earlier = h.earlier; kept = c.place_if.result; other = h.other } in
    let t : Service = record { accepted = c.counted-self-inside.result; opened = i.opened; held = i.held.items; tickets = i.tickets; waiting = c.new.result; generations = i.generations + 1; actions = number; running = Some c.hand_out_of.new.running; published = i.published } in
    let said : a.number ≡ s.actions + 1 = ap (λ (x : Service). x.actions + 1) c.self.view_is in
    let state : t ≡ begun_with s r h.next.place (s.actions + 1) h.next.awaited =
    ap (λ n. begun_record n c.new.result (Some c.hand_out_of.new.running) V) c.counted-self-inside.ensures
    ∙ ap (λ l. begun_record (counted i.accepted) l (Some c.hand_out_of.new.running) V) c.new.ensures
    ∙ ap (λ (x : Running). begun_record (counted i.accepted) [] (Some x) V) c.hand_out_of.ensures
    ∙ ap (λ (x : Service). begun_record (counted x.accepted) [] (Some (with_batch r (batch_with r.batch.sources (slice_set r.batch.slots h.next.place (Taken (x.actions + 1) h.next.awaited)) r.batch.parts))) x) c.self.view_is in
    begun_step s r c.args.steady h a t c.requires (ap (λ (x : Running). x.generation) c.hand_out_of.ensures) said refl refl c.place_if.ensures state
