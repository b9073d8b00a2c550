use Rattle.std.proofs.Common.{refl}
use Rattle.go_local_core.proofs.WalksVisits.{turn, whole}
use Rattle.go_local_core.proofs.WalksStepLemmas.{listed, one_line}
use Rattle.go_branch_core.proofs.turn.visit_run.Goals as goal

pub loop-line-preserved : goal.loop-line-preserved
loop-line-preserved g c = turn g.V.Visitor.Leads listed one_line refl (λ x xs. refl) g.met.V.Visitor.leads_more c.args.visitor.now c.args.lines.now c.loop-line.line-index c.line-item.result _ _ c.loop-line-test.true c.line-item.is c.loop-line.invariant c.visit_stmt.ensures

pub returns : goal.returns
returns g c = whole g.V.Visitor.Leads listed one_line refl (λ x xs. refl) g.met.V.Visitor.leads_none c.args.visitor.now c.args.lines.now c.args.lines.now c.loop-line.line-index _ refl c.loop-line-test.false c.loop-line.invariant
