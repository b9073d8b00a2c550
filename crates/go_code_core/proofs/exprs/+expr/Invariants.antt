use Rattle.std.proofs.Common.{◌≡◌, ◌++◌, drop}
use Rattle.go_tree_nodes.specs.Shapes.{items_of}
use Rattle.go_code_core.specs.Code.{items_code}
use Rattle.go_code_core.specs.fragments.Names.{frame_of}
use Rattle.go_code_core.proofs.exprs.+expr.Given as goal

abbrev pub invariant-arguments-loop-at : goal.invariant-arguments-loop-at
invariant-arguments-loop-at g l = l.code ≡ items_code (frame_of (g.N.CodeNames.looks l.frame.names.now) l.frame.slots.now) (items_of (drop l.at l.items.items)) ++ l.fn.code
