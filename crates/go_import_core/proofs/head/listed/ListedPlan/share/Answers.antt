use Rattle.std.proofs.Common.{◌≡◌, ℕ, Vec, Global, length, map, sym, subst}
use Rattle.std.specs.Arc.{arc_value}
use Rattle.go_graph_core.specs.Plans.{AreImporters, PlanModel}
use Rattle.go_import_core.proofs.head.listed.ListedPlan.share.Goals as goal

pub invariant_of-result : goal.invariant_of-result
invariant_of-result c =
    let i = c.self.inside in
    subst (λ (p : PlanModel). AreImporters p (map (λ (r : Vec ℕ Global). r.items) (arc_value c.in_ok-importers.importers).items) × (length (arc_value c.in_ok-importers.importers).items ≡ length p.outcomes)) (sym c.in_ok-plan.ensures)
    (subst (λ (v : Vec (Vec ℕ Global) Global). AreImporters i.plan (map (λ (r : Vec ℕ Global). r.items) v.items) × (length v.items ≡ length i.plan.outcomes)) (sym c.in_ok-importers.ensures) c.self.invariant)
