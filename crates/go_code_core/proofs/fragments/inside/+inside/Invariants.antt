use Rattle.std.proofs.Common.{◌≡◌, drop}
use Rattle.go_tree_nodes.specs.Shapes.{lines_of}
use Rattle.go_code_core.specs.fragments.Inside.{lines_inside}
use Rattle.go_code_core.specs.fragments.Names.{frame_of}
use Rattle.go_code_core.proofs.fragments.inside.+inside.Given as goal

abbrev pub invariant-lines_inside-loop-line : goal.invariant-lines_inside-loop-line
invariant-lines_inside-loop-line g l = lines_inside (frame_of (g.N.CodeNames.looks l.frame.names.now) l.frame.slots.now) (lines_of l.line-items) ≡ lines_inside (frame_of (g.N.CodeNames.looks l.frame.names.now) l.frame.slots.now) (lines_of (drop l.line-index l.line-items))
