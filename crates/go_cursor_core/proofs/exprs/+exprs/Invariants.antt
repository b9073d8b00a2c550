use Rattle.std.proofs.Common.{refl}
use Rattle.go_cursor_core.proofs.Finding.{Ahead}
use Rattle.go_cursor_core.specs.Shown.{literal_shown}
use Rattle.go_cursor_core.proofs.TreeLists.{listed_args, one_arg, args_first, listed_elements, one_element, elements_first}
use Rattle.go_cursor_core.proofs.exprs.+exprs.Given as goal

abbrev pub invariant-in_args-loop-arg : goal.invariant-in_args-loop-arg
invariant-in_args-loop-arg l = Ahead l.start listed_args one_arg (λ n. refl) args_first l.arg-items l.arg-index

abbrev pub invariant-in_elements-loop-at : goal.invariant-in_elements-loop-at
invariant-in_elements-loop-at l =
    Ahead l.start (listed_elements (literal_shown l.of_type) l.elements.items) (one_element (literal_shown l.of_type) l.elements.items) (λ n. refl) (elements_first (literal_shown l.of_type) l.elements.items) l.element-items l.at
