use Rattle.std.proofs.Common.{length, sym, ap, ◌∙◌, subst}
use Rattle.go_block_core.specs.graph_core.Plans.{AreReached, IsPlan, PlanModel}
use Rattle.go_batch_core.proofs.planned.Planned.of.Goals as goal

pub returns : goal.returns
returns c = record {
  well = c.packages-packages.ensures.well;
  planned = subst (IsPlan c.args.sources.now) (sym c.in_ok-plan.ensures) c.in_ok-drawn.ensures;
  reached = subst (λ (p : PlanModel). AreReached p c.in_ok-reached.reached) (sym c.in_ok-plan.ensures) (subst (AreReached c.in_ok-drawn.drawn) (sym c.in_ok-reached.ensures) c.in_ok-sets.ensures.sets);
  many = ap length c.in_ok-reached.ensures ∙ c.in_ok-sets.ensures.many ∙ ap (λ (p : PlanModel). length p.outcomes) (sym c.in_ok-plan.ensures);
}
