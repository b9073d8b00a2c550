use Rattle.std.proofs.Common.{refl}
use Rattle.go_cursor_core.proofs.Finding.{Ahead}
use Rattle.go_cursor_core.proofs.TreeLists.{listed_next, one_next}
use Rattle.go_cursor_core.proofs.exprs.in_exprs.Given as goal

abbrev pub invariant-loop-next : goal.invariant-loop-next
invariant-loop-next l = Ahead l.start listed_next one_next (λ n. refl) (λ n x xs. refl) l.next-items l.next-index
