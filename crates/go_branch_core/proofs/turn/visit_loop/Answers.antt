use Rattle.go_local_core.proofs.WalksVisits.{same}
use Rattle.go_local_core.proofs.WalksStepLemmas.{loop_has}
use Rattle.go_branch_core.proofs.turn.visit_loop.Goals as goal

pub returns : goal.returns
returns g c =
    let inner = g.met.V.Visitor.leads_inner in
    same g.V.Visitor.Leads _ _ _ _ (loop_has c.args.turns.now)
    (inner _ _ _ _ _ _ _ c.enter.ensures (g.met.V.Visitor.leads_more _ _ _ _ _ c.visit_for_head.ensures (inner _ _ _ _ _ _ _ c.enter-2.ensures c.visit_lines.ensures c.leave.ensures)) c.leave-2.ensures)
