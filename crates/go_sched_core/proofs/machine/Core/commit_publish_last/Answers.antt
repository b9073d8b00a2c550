use Rattle.std.proofs.Common.{◌≡◌, Some, sym, ap, ◌∙◌, subst}
use Rattle.go_sched_core.specs.Service.{Service}
use Rattle.go_sched_core.specs.Steps.{with_batch}
use Rattle.go_sched_core.specs.declared.running.Running.{Running}
use Rattle.go_sched_core.specs.mirrors.Fitting.{ArePublished}
use Rattle.go_sched_core.specs.mirrors.Kept.{RunsOn}
use Rattle.go_sched_core.proofs.Marking.{planned_after, published_sources}
use Rattle.go_sched_core.proofs.machine.Core.commit_publish_last.Goals as goal

pub invariant_of-self : goal.invariant_of-self
invariant_of-self c =
    let i = c.self.inside in
    let q = c.requires in
    let r : Running = q.0 in
    let running : i.running ≡ Some r = ap (λ (x : Service). x.running) c.self.view_is ∙ q.2 in
    let runs : RunsOn i.published (Some r) = subst (RunsOn i.published) running c.self.invariant.runs in
    let published : ArePublished i.published (with_batch r q.1) c.args.batches = subst (λ (x : Service). ArePublished x.published (with_batch r q.1) c.args.batches) (sym c.self.view_is) q.3 in
    record {
      few = c.self.invariant.few;
      has_room = c.self.invariant.has_room;
      runs = tt;
      plans = planned_after c.args.batches i.running c.planned_of.result c.planned_of.ensures (r, running, published_sources i.published c.args.batches r q.1 runs published);
      steady_is = tt;
    }
