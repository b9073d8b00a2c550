use Rattle.go_local_core.proofs.WalksVisits.{Ahead}
use Rattle.go_local_core.proofs.WalksStepLemmas.{group, one_spec}
use Rattle.std.proofs.Common.{refl}
use Rattle.go_branch_core.proofs.turn.visit_value.Given as goal

abbrev pub invariant-loop-line : goal.invariant-loop-line
invariant-loop-line g l = Ahead g.V.Visitor.Leads (group l.value.kind) (one_spec l.value.kind) refl (λ x xs. refl) l.fn.visitor l.line-items l.line-index l.visitor
