use Rattle.std.proofs.Common.{take}
use Rattle.std.specs.List.{flat_map}
use Rattle.go_tree_core.proofs.OccLemmas.{item_occs}
use Rattle.go_tree_core.proofs.expr_occurrences.+visit.Given as goal

abbrev pub invariant-visit_items-loop-item : goal.invariant-visit_items-loop-item
invariant-visit_items-loop-item g l = g.V.Visitor.Sees l.fn.visitor (flat_map item_occs (take l.item-index l.item-items)) l.visitor
