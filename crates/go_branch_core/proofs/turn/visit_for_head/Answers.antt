use Rattle.std.proofs.Common.{ap}
use Rattle.go_tree_nodes.specs.Shapes.{shape_for}
use Rattle.go_local_core.specs.Outline.{for_steps}
use Rattle.go_local_core.proofs.WalksVisits.{same}
use Rattle.go_branch_core.proofs.turn.visit_for_head.Goals as goal

pub returns-in-Forever : goal.returns-in-Forever
returns-in-Forever g c = same g.V.Visitor.Leads _ _ _ _ (ap (λ o. λ rest. for_steps (shape_for o) rest) c.in-Forever.is) (g.met.V.Visitor.leads_none _)

pub returns-in-Clauses : goal.returns-in-Clauses
returns-in-Clauses g c =
    let more = g.met.V.Visitor.leads_more in
    same g.V.Visitor.Leads _ _ _ _ (ap (λ o. λ rest. for_steps (shape_for o) rest) c.in-Clauses.is)
    (more _ _ _ _ _ c.visit_some_simple.ensures (more _ _ _ _ _ c.visit_some_condition.ensures c.visit_some_simple-in-Clauses.ensures))
