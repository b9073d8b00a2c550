use Rattle.std.proofs.Common.{◌≡◌, ◌++◌, drop, length}
use Rattle.go_tree_nodes.specs.Shapes.{lines_of}
use Rattle.go_code_core.specs.Code.{lines_code}
use Rattle.go_code_core.specs.fragments.Names.{frame_of}
use Rattle.go_code_core.specs.mirrors.Written.{exits_at}
use Rattle.go_code_core.proofs.stmts.+stmt.Given as goal

abbrev pub invariant-lines-loop-at : goal.invariant-lines-loop-at
invariant-lines-loop-at g l = l.code ≡ lines_code (frame_of (g.N.CodeNames.looks l.frame.names.now) l.frame.slots.now) (exits_at (length l.fn.code) l.marks) (lines_of (drop l.at l.lines.items)) ++ l.fn.code
