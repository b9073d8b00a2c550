use Rattle.std.proofs.Common.{refl}
use Rattle.go_cursor_core.proofs.Finding.{Ahead}
use Rattle.go_cursor_core.proofs.TreeLists.{lines_used, one_line, lines_first, listed_methods, one_method, methods_first, listed_params, one_param, params_first}
use Rattle.go_cursor_core.proofs.types.+types.Given as goal

abbrev pub invariant-in_field_lines-loop-line : goal.invariant-in_field_lines-loop-line
invariant-in_field_lines-loop-line l = Ahead l.start lines_used one_line (λ n. refl) lines_first l.line-items l.line-index

abbrev pub invariant-in_methods-loop-method : goal.invariant-in_methods-loop-method
invariant-in_methods-loop-method l = Ahead l.start listed_methods one_method (λ n. refl) methods_first l.method-items l.method-index

abbrev pub invariant-in_params-loop-param : goal.invariant-in_params-loop-param
invariant-in_params-loop-param l = Ahead l.start listed_params one_param (λ n. refl) params_first l.param-items l.param-index
