use Rattle.std.proofs.Common.{◌≡◌, ◌+◌, ℕ, Option, Some, refl, sym, ap, ◌∙◌, subst}
use Rattle.std.specs.Prelude.{slice_set}
use Rattle.go_batch_core.specs.declared.slot.Slot.TheVariants.{Taken}
use Rattle.go_batch_core.specs.Batches.{batch_with}
use Rattle.go_batch_core.specs.Steadiness.{SteadyModel}
use Rattle.go_sched_core.specs.Service.{Service, counted}
use Rattle.go_sched_core.specs.Steps.{Acts, TakesOf, with_batch}
use Rattle.go_sched_core.specs.mirrors.Beside.{SteadyRuns, handed}
use Rattle.go_sched_core.specs.mirrors.Fitting.{IsHand}
use Rattle.go_sched_core.specs.mirrors.Kept.{RunsOn}
use Rattle.go_sched_core.specs.declared.event.Action.{Action}
use Rattle.go_sched_core.specs.declared.event.Reply.TheVariants.{Act}
use Rattle.go_sched_core.specs.declared.running.Running.{Running}
use Rattle.go_sched_core.proofs.Commits.{acting}
use Rattle.go_sched_core.proofs.Lists.{some_same}
use Rattle.go_sched_core.proofs.Marking.{kept_action, runs_with, steady_hand}
use Rattle.go_sched_core.proofs.machine.Core.commit_hand_out.Goals as goal

pub returns-clause-step : goal.returns-clause-step
returns-clause-step c =
    let s : Service = c.args.self.now in
    let i = c.self.inside in
    let V : Service = record { accepted = i.accepted; opened = i.opened; held = i.held.items; tickets = i.tickets; waiting = i.waiting; generations = i.generations; actions = i.actions; running = i.running; published = i.published } in
    let q = c.hand_out-generation.ensures in
    let r : Running = q.0 in
    let running : s.running ≡ Some r = ap (λ (x : Service). x.running) (sym c.self.view_is) ∙ q.1 in
    let same : c.requires.r ≡ r = some_same s.running c.requires.r r c.requires.running running in
    let hand = subst (λ (x : Running). IsHand s.published x.batch c.args.hand) same c.requires.hand in
    let number = c.self.inside.actions + 1 in
    let after = batch_with r.batch.sources (slice_set r.batch.slots c.args.hand.next.place (Taken number c.args.hand.next.awaited)) r.batch.parts in
    let a : Action = record { generation = c.hand_out-generation.result; number = number; input = c.args.hand.next.input; earlier = c.args.hand.earlier; kept = c.place_if.result; other = c.args.hand.other } in
    let acts : Acts s r a (acting c.counted-self-inside.result c.hand_out-generation.new.running number V) = record {
      generation = q.2;
      number = ap (λ (x : Service). x.actions + 1) c.self.view_is;
      earlier = hand.earlier;
      after = after;
      handed = record { place = c.args.hand.next.place; ready = hand.next.ready; of_package = hand.next.input; slots = ap (λ i. batch_with r.batch.sources (slice_set r.batch.slots c.args.hand.next.place (Taken number i)) r.batch.parts) hand.next.awaited };
      kept = kept_action s.published r.batch c.args.hand a hand c.place_if.ensures refl refl;
      state = ap (λ n. acting n c.hand_out-generation.new.running number V) c.counted-self-inside.ensures ∙ ap (λ o. acting (counted i.accepted) o number V) q.3 ∙ ap (λ (x : Service). acting (counted x.accepted) (Some (with_batch r after)) (x.actions + 1) x) c.self.view_is;
    } in
    subst (λ (o : Option Running). TakesOf o s (Act a) (acting c.counted-self-inside.result c.hand_out-generation.new.running number V)) (sym running) acts

pub invariant_of-self : goal.invariant_of-self
invariant_of-self c =
    let i = c.self.inside in
    let q = c.hand_out-generation.ensures in
    let r : Running = q.0 in
    let h = c.args.hand in
    let running = ap (λ (x : Service). x.running) (sym c.self.view_is) ∙ q.1 in
    let same : c.requires.r ≡ r = some_same c.args.self.now.running c.requires.r r c.requires.running running in
    let hand : IsHand i.published r.batch h = subst (λ (x : Service). IsHand x.published r.batch h) (sym c.self.view_is) (subst (λ (x : Running). IsHand c.args.self.now.published x.batch h) same c.requires.hand) in
    let slots = slice_set r.batch.slots h.next.place (Taken (i.actions + 1) h.next.awaited) in
    let after = batch_with r.batch.sources slots r.batch.parts in
    record {
      few = c.self.invariant.few;
      has_room = c.self.invariant.has_room;
      runs = subst (RunsOn i.published) (sym q.3) (runs_with i.published i.running r slots r.batch.parts c.self.invariant.runs q.1);
      plans = c.self.invariant.plans;
      steady_is = subst (λ (o : Option Running). SteadyRuns i.published o c.mark_handed.new.steady) (sym q.3)
          (subst (λ (st : Option SteadyModel). SteadyRuns i.published (Some (with_batch r after)) st) (sym c.mark_handed.ensures)
          (steady_hand i.published r.batch i.steady h (i.actions + 1) (subst (λ (o : Option Running). SteadyRuns i.published o i.steady) q.1 c.self.invariant.steady_is) hand));
    }
