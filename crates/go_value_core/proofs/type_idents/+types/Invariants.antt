use Rattle.std.proofs.Common.{◌≡◌, ◌++◌, drop, map}
use Rattle.go_tree_nodes.specs.TypeShapes.{fields_of, methods_of, params_of}
use Rattle.go_value_core.proofs.type_idents.+types.Given as goal
use Rattle.go_tree_nodes.specs.Idents.{fields_idents, methods_idents, params_idents}

abbrev pub invariant-add_lines-loop-line : goal.invariant-add_lines-loop-line
invariant-add_lines-loop-line l = map (λ x. x.now) l.found.items ++ fields_idents (fields_of (drop l.line-index l.line-items)) ≡ map (λ x. x.now) l.fn.found.items ++ fields_idents (fields_of l.line-items)

abbrev pub invariant-add_methods-loop-method : goal.invariant-add_methods-loop-method
invariant-add_methods-loop-method l = map (λ x. x.now) l.found.items ++ methods_idents (methods_of (drop l.method-index l.method-items)) ≡ map (λ x. x.now) l.fn.found.items ++ methods_idents (methods_of l.method-items)

abbrev pub invariant-add_params-loop-param : goal.invariant-add_params-loop-param
invariant-add_params-loop-param l = map (λ x. x.now) l.found.items ++ params_idents (params_of (drop l.param-index l.param-items)) ≡ map (λ x. x.now) l.fn.found.items ++ params_idents (params_of l.param-items)
