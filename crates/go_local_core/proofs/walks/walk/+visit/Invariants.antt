use Rattle.go_local_core.proofs.WalksVisits.{Ahead}
use Rattle.go_local_core.proofs.WalksStepLemmas.{listed, one_line}
use Rattle.std.proofs.Common.{refl}
use Rattle.go_local_core.proofs.walks.walk.+visit.Given as goal

abbrev pub invariant-visit_lines-loop-line : goal.invariant-visit_lines-loop-line
invariant-visit_lines-loop-line g l = Ahead g.V.Visitor.Leads listed one_line refl (λ x xs. refl) l.fn.visitor l.line-items l.line-index l.visitor
