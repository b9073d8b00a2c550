use Rattle.std.proofs.Common.{◌≡◌, drop}
use Rattle.go_tree_nodes.specs.Shapes.{lines_of}
use Rattle.go_local_core.specs.walks.Ends.{lines_have_break}
use Rattle.go_local_core.proofs.walks.ends.+breaks.Given as goal

abbrev pub invariant-lines_have_break-loop-line : goal.invariant-lines_have_break-loop-line
invariant-lines_have_break-loop-line l = lines_have_break (lines_of l.line-items) ≡ lines_have_break (lines_of (drop l.line-index l.line-items))
