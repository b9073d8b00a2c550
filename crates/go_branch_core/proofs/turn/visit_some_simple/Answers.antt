use Rattle.std.proofs.Common.{ap}
use Rattle.go_tree_nodes.specs.Shapes.{shape_some_simple}
use Rattle.go_local_core.specs.Outline.{some_simple_steps}
use Rattle.go_local_core.proofs.WalksVisits.{same}
use Rattle.go_branch_core.proofs.turn.visit_some_simple.Goals as goal

pub returns-in-None : goal.returns-in-None
returns-in-None g c = same g.V.Visitor.Leads _ _ _ _ (ap (λ o. λ rest. some_simple_steps (shape_some_simple o) rest) c.in-None.is) (g.met.V.Visitor.leads_none _)
