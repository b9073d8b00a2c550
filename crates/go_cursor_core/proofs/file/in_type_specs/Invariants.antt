use Rattle.std.proofs.Common.{refl}
use Rattle.go_cursor_core.proofs.Finding.{Ahead}
use Rattle.go_cursor_core.proofs.TreeLists.{listed_types, one_type}
use Rattle.go_cursor_core.proofs.file.in_type_specs.Given as goal

abbrev pub invariant-loop-line : goal.invariant-loop-line
invariant-loop-line l = Ahead l.start listed_types one_type (λ n. refl) (λ n x xs. refl) l.line-items l.line-index
