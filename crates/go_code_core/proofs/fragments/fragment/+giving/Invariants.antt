use Rattle.std.proofs.Common.{◌≡◌, drop}
use Rattle.go_tree_nodes.specs.Shapes.{items_of}
use Rattle.go_code_core.specs.fragments.Fragment.{all_ones}
use Rattle.go_code_core.specs.fragments.Names.{frame_of}
use Rattle.go_code_core.proofs.fragments.fragment.+giving.Given as goal

abbrev pub invariant-all_ones-loop-item : goal.invariant-all_ones-loop-item
invariant-all_ones-loop-item g l = all_ones (frame_of (g.N.CodeNames.looks l.frame.names.now) l.frame.slots.now) (items_of l.item-items) ≡ all_ones (frame_of (g.N.CodeNames.looks l.frame.names.now) l.frame.slots.now) (items_of (drop l.item-index l.item-items))
