use Rattle.std.proofs.Common.{◌≡◌, ◌++◌, map, drop}
use Rattle.go_tree_nodes.specs.TypeShapes.{params_of}
use Rattle.go_local_core.specs.Outline.{param_idents}
use Rattle.go_names_core.proofs.idents.add_params.Given as goal

abbrev pub invariant-loop-param : goal.invariant-loop-param
invariant-loop-param l =
    map (λ i. i.now) l.fn.list.items ++ param_idents (params_of l.param-items) ≡ map (λ i. i.now) l.list.items ++ param_idents (params_of (drop l.param-index l.param-items))
