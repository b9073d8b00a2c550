use Rattle.std.proofs.Common.{◌≡◌, Option, Some, sym, ap, ◌∙◌, subst}
use Rattle.std.specs.Prelude.{slice_set}
use Rattle.go_batch_core.specs.Batches.{IsEnding, with_part}
use Rattle.go_batch_core.specs.Steadiness.{SteadyModel}
use Rattle.go_batch_core.specs.declared.slot.Slot.TheVariants.{Finished}
use Rattle.go_sched_core.specs.Service.{Service}
use Rattle.go_sched_core.specs.Steps.{with_batch}
use Rattle.go_sched_core.specs.declared.running.Running.{Running}
use Rattle.go_sched_core.specs.mirrors.Beside.{IsMove, SteadyRuns}
use Rattle.go_sched_core.specs.mirrors.Kept.{RunsOn}
use Rattle.go_sched_core.proofs.Lists.{some_same}
use Rattle.go_sched_core.proofs.Marking.{runs_with, steady_end}
use Rattle.go_sched_core.proofs.machine.Core.commit_finish.Goals as goal

pub invariant_of-self : goal.invariant_of-self
invariant_of-self c =
    let i = c.self.inside in
    let e = c.args.ending in
    let q = c.finish.ensures in
    let r : Running = q.0 in
    let asked = c.requires in
    let same : asked.0 ≡ r = some_same c.args.self.now.running asked.0 r asked.1 (ap (λ (x : Service). x.running) (sym c.self.view_is) ∙ q.1) in
    let ends : IsEnding r.batch e = subst (λ (x : Running). IsEnding x.batch e) same asked.2 in
    let moves : IsMove i.published e.place e.part c.args.retold = subst (λ (x : Service). IsMove x.published e.place e.part c.args.retold) (sym c.self.view_is) asked.3 in
    record {
      few = c.self.invariant.few;
      has_room = c.self.invariant.has_room;
      runs = subst (RunsOn i.published) (sym q.2) (runs_with i.published i.running r (slice_set r.batch.slots e.place Finished) (slice_set r.batch.parts e.place (Some e.part)) c.self.invariant.runs q.1);
      plans = c.self.invariant.plans;
      steady_is = subst (λ (o : Option Running). SteadyRuns i.published o c.mark_finished.new.steady) (sym q.2)
          (subst (λ (st : Option SteadyModel). SteadyRuns i.published (Some (with_batch r (with_part r.batch e.place e.part))) st) (sym c.mark_finished.ensures)
          (steady_end i.published i.running r i.steady e.place e.part c.args.retold ends.number c.self.invariant.steady_is q.1 ends.awaits moves));
    }
