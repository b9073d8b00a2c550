use Rattle.std.proofs.Common.{◌≡◌, ℕ, Vec, Global, map, sym, subst}
use Rattle.std.specs.Arc.{arc_value}
use Rattle.std.proofs.lemmas.Result.{IfOk-weaker}
use Rattle.go_graph_core.specs.Plans.{AreImporters, PlanModel}
use Rattle.go_import_core.proofs.head.listed.ListedPlan.importers.Goals as goal

pub returns-clause-rows : goal.returns-clause-rows
returns-clause-rows c =
    let i = c.self.inside in
    IfOk-weaker c.try_clone.result (λ rows. arc_value rows ≡ arc_value i.importers) _
    (λ rows same.
    subst (λ (p : PlanModel). AreImporters p (map (λ (r : Vec ℕ Global). r.items) (arc_value rows).items)) c.self.view_is
    (subst (λ (v : Vec (Vec ℕ Global) Global). AreImporters i.plan (map (λ (r : Vec ℕ Global). r.items) v.items)) (sym same) c.self.invariant.0))
    c.try_clone.ensures
