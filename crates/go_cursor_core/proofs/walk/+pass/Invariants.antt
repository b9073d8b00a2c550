use Rattle.std.proofs.Common.{refl}
use Rattle.go_expr_core.specs.local_core.WalksVisits.{Ahead}
use Rattle.go_expr_core.specs.local_core.WalksStepLemmas.{listed, one_line}
use Rattle.go_cursor_core.specs.mirrors.Searching.{Leads}
use Rattle.go_cursor_core.proofs.walk.+pass.Given as goal

abbrev pub invariant-pass_lines-loop-line : goal.invariant-pass_lines-loop-line
invariant-pass_lines-loop-line l = Ahead Leads listed one_line refl (λ x xs. refl) l.fn.search l.line-items l.line-index l.search
