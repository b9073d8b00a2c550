use Rattle.std.proofs.Common.{◌≡◌, ℕ, Vec, Global, length, map, sym, subst}
use Rattle.go_graph_core.specs.Plans.{AreImporters}
use Rattle.go_import_core.proofs.head.listed.ListedPlan.of.Goals as goal

pub invariant_of-result : goal.invariant_of-result
invariant_of-result c =
    subst (λ (v : Vec (Vec ℕ Global) Global). AreImporters c.args.plan (map (λ (r : Vec ℕ Global). r.items) v.items) × (length v.items ≡ length c.args.plan.outcomes)) (sym c.in_ok-importers.ensures.ok)
    (c.in_ok-listed.ensures.rows, c.in_ok-listed.ensures.many)
