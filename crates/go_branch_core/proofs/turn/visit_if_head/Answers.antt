use Rattle.go_branch_core.proofs.turn.visit_if_head.Goals as goal

pub returns : goal.returns
returns g c = g.met.V.Visitor.leads_more _ _ _ _ _ c.visit_init.ensures c.visit_condition.ensures
