use Rattle.std.proofs.Common.{◌++◌, take}
use Rattle.std.specs.List.{flat_map}
use Rattle.go_tree_nodes.specs.Shapes.{shape}
use Rattle.go_tree_core.specs.Occurrences.{expr_occs}
use Rattle.go_tree_core.proofs.OccLemmas.{next_occs}
use Rattle.go_tree_core.proofs.expr_occurrences.visit_exprs.Given as goal

abbrev pub invariant-loop-next : goal.invariant-loop-next
invariant-loop-next g l = g.V.Visitor.Sees l.fn.visitor (expr_occs l.context (shape l.exprs.first) ++ flat_map (next_occs l.context) (take l.next-index l.next-items)) l.visitor
