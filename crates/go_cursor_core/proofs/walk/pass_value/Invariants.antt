use Rattle.std.proofs.Common.{refl}
use Rattle.go_expr_core.specs.local_core.WalksVisits.{Ahead}
use Rattle.go_expr_core.specs.local_core.WalksStepLemmas.{group, one_spec}
use Rattle.go_cursor_core.specs.mirrors.Searching.{Leads}
use Rattle.go_cursor_core.proofs.walk.pass_value.Given as goal

abbrev pub invariant-loop-line : goal.invariant-loop-line
invariant-loop-line l = Ahead Leads (group l.value.kind) (one_spec l.value.kind) refl (λ x xs. refl) l.fn.search l.line-items l.line-index l.search
