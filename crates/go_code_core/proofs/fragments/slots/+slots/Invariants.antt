use Rattle.std.proofs.Common.{◌≡◌, ◌++◌, drop}
use Rattle.go_tree_nodes.specs.Shapes.{lines_of}
use Rattle.go_code_core.specs.fragments.Slots.{lines_slots}
use Rattle.go_code_core.proofs.fragments.slots.+slots.Given as goal

abbrev pub invariant-add_lines-loop-line : goal.invariant-add_lines-loop-line
invariant-add_lines-loop-line g l =
    l.fn.slots.items ++ lines_slots (g.N.CodeNames.looks l.names) (lines_of l.line-items) ≡ l.slots.items ++ lines_slots (g.N.CodeNames.looks l.names) (lines_of (drop l.line-index l.line-items))
