use Rattle.std.proofs.Common.{refl}
use Rattle.go_cursor_core.proofs.Finding.{Ahead}
use Rattle.go_cursor_core.proofs.TreeLists.{listed_targets, one_target}
use Rattle.go_cursor_core.proofs.pieces.in_targets.Given as goal

abbrev pub invariant-loop-next : goal.invariant-loop-next
invariant-loop-next l = Ahead l.start listed_targets one_target (λ n. refl) (λ n x xs. refl) l.next-items l.next-index
