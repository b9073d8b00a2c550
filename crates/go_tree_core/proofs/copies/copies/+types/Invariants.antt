use Rattle.std.proofs.Common.{◌≡◌, map, take}
use Rattle.go_tree_core.specs.copies.Respelled.{spelled, fields_with, methods_with, params_with}
use Rattle.go_tree_core.proofs.CopiesSameTrees.{field_tree, method_tree, param_tree}
use Rattle.go_tree_core.proofs.copies.copies.+types.Given as goal

abbrev pub invariant-copy_field_lines-loop-line : goal.invariant-copy_field_lines-loop-line
invariant-copy_field_lines-loop-line l = map field_tree l.copies.items ≡ map (λ x. fields_with (spelled l.copier) (field_tree x)) (take l.line-index l.line-items)

abbrev pub invariant-copy_methods-loop-method : goal.invariant-copy_methods-loop-method
invariant-copy_methods-loop-method l = map method_tree l.copies.items ≡ map (λ x. methods_with (spelled l.copier) (method_tree x)) (take l.method-index l.method-items)

abbrev pub invariant-copy_params-loop-param : goal.invariant-copy_params-loop-param
invariant-copy_params-loop-param l = map param_tree l.copies.items ≡ map (λ x. params_with (spelled l.copier) (param_tree x)) (take l.param-index l.param-items)
