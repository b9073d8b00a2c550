use Rattle.std.proofs.Common.{◌≡◌, ◌++◌, drop}
use Rattle.go_tree_nodes.specs.Shapes.{items_of}
use Rattle.go_code_core.specs.Code.{letters}
use Rattle.go_code_core.specs.fragments.Names.{frame_of}
use Rattle.go_code_core.proofs.exprs.letters.Given as goal

abbrev pub invariant-loop-item : goal.invariant-loop-item
invariant-loop-item g l = letters (frame_of (g.N.CodeNames.looks l.frame.names.now) l.frame.slots.now) (items_of l.item-items) ≡ l.letters ++ letters (frame_of (g.N.CodeNames.looks l.frame.names.now) l.frame.slots.now) (items_of (drop l.item-index l.item-items))
