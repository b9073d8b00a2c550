use Rattle.std.proofs.Common.{◌≡◌, ◌++◌, drop}
use Rattle.go_tree_nodes.specs.Shapes.{lines_of}
use Rattle.go_local_core.specs.walks.Ends.{lines_loop_faults}
use Rattle.go_local_core.proofs.walks.ends.+loops.Given as goal

abbrev pub invariant-lines_loop_faults-loop-line : goal.invariant-lines_loop_faults-loop-line
invariant-lines_loop_faults-loop-line l = l.fn.faults.items ++ lines_loop_faults l.in_loop (lines_of l.line-items) ≡ l.faults.items ++ lines_loop_faults l.in_loop (lines_of (drop l.line-index l.line-items))
