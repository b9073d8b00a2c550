use Rattle.std.proofs.Common.{refl}
use Rattle.go_local_core.proofs.WalksVisits.{Ahead}
use Rattle.go_local_core.proofs.WalksStepLemmas.{listed, one_line}
use Rattle.go_branch_core.proofs.turn.visit_run.Given as goal

abbrev pub invariant-loop-line : goal.invariant-loop-line
invariant-loop-line g l = Ahead g.V.Visitor.Leads listed one_line refl (λ x xs. refl) l.fn.visitor l.lines l.line-index l.visitor
