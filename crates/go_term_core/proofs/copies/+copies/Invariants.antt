use Rattle.std.proofs.Common.{◌≡◌, map, take}
use Rattle.go_term_core.specs.Shapes.{shape, line_shape}
use Rattle.go_term_core.proofs.Copied.{method_term}
use Rattle.go_term_core.proofs.copies.+copies.Given as goal

abbrev pub invariant-copy_lines-loop-line : goal.invariant-copy_lines-loop-line
invariant-copy_lines-loop-line l = map line_shape l.copies.items ≡ map line_shape (take l.line-index l.line-items)

abbrev pub invariant-copy_methods-loop-method : goal.invariant-copy_methods-loop-method
invariant-copy_methods-loop-method l = map method_term l.copies.items ≡ map method_term (take l.method-index l.method-items)

abbrev pub invariant-copy_terms-loop-term : goal.invariant-copy_terms-loop-term
invariant-copy_terms-loop-term l = map shape l.copies.items ≡ map shape (take l.term-index l.term-items)
