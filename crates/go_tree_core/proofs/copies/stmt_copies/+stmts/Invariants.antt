use Rattle.std.proofs.Common.{◌≡◌, map, take}
use Rattle.go_tree_core.specs.copies.Respelled.{spelled, lines_with}
use Rattle.go_tree_core.proofs.CopiesSameTrees.{line_tree}
use Rattle.go_tree_core.proofs.copies.stmt_copies.+stmts.Given as goal

abbrev pub invariant-copy_lines-loop-line : goal.invariant-copy_lines-loop-line
invariant-copy_lines-loop-line l = map line_tree l.copies.items ≡ map (λ x. lines_with (spelled l.copier) (line_tree x)) (take l.line-index l.line-items)
