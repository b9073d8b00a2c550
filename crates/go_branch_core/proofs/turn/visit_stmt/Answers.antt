use Rattle.std.proofs.Common.{ap}
use Rattle.go_tree_nodes.specs.Shapes.{shape_stmt}
use Rattle.go_local_core.specs.Outline.{stmt_steps}
use Rattle.go_local_core.proofs.WalksVisits.{same}
use Rattle.go_local_core.proofs.WalksStepLemmas.{block_has}
use Rattle.go_branch_core.proofs.turn.visit_stmt.Goals as goal

pub returns-in-Empty : goal.returns-in-Empty
returns-in-Empty g c = same g.V.Visitor.Leads _ _ _ _ (ap (λ o. stmt_steps (shape_stmt o)) c.in-Empty.is) (g.met.V.Visitor.leads_none _)

pub returns-in-Break : goal.returns-in-Break
returns-in-Break g c = same g.V.Visitor.Leads _ _ _ _ (ap (λ o. stmt_steps (shape_stmt o)) c.in-Break.is) (g.met.V.Visitor.leads_none _)

pub returns-in-Continue : goal.returns-in-Continue
returns-in-Continue g c = same g.V.Visitor.Leads _ _ _ _ (ap (λ o. stmt_steps (shape_stmt o)) c.in-Continue.is) (g.met.V.Visitor.leads_none _)

pub returns-in-Block : goal.returns-in-Block
returns-in-Block g c = same g.V.Visitor.Leads _ _ _ _ (block_has c.args.stmt.now _ _ _ c.in-Block.is) (g.met.V.Visitor.leads_inner _ _ _ _ _ _ _ c.enter.ensures c.visit_lines.ensures c.leave.ensures)
