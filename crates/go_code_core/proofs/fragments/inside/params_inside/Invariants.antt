use Rattle.std.proofs.Common.{◌≡◌, drop}
use Rattle.go_tree_nodes.specs.TypeShapes.{params_of}
use Rattle.go_code_core.specs.fragments.Inside.{params_inside}
use Rattle.go_code_core.proofs.fragments.inside.params_inside.Given as goal

abbrev pub invariant-loop-param : goal.invariant-loop-param
invariant-loop-param g l = params_inside (g.N.CodeNames.looks l.names) (params_of l.param-items) ≡ params_inside (g.N.CodeNames.looks l.names) (params_of (drop l.param-index l.param-items))
