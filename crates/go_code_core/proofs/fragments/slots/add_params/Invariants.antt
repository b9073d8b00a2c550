use Rattle.std.proofs.Common.{◌≡◌, ◌++◌, drop}
use Rattle.go_tree_nodes.specs.TypeShapes.{params_of}
use Rattle.go_code_core.specs.fragments.Slots.{param_slots}
use Rattle.go_code_core.proofs.fragments.slots.add_params.Given as goal

abbrev pub invariant-loop-param : goal.invariant-loop-param
invariant-loop-param l = l.fn.slots.items ++ param_slots (params_of l.param-items) ≡ l.slots.items ++ param_slots (params_of (drop l.param-index l.param-items))
