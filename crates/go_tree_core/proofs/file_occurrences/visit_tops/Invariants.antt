use Rattle.std.proofs.Common.{take}
use Rattle.std.specs.List.{flat_map}
use Rattle.go_tree_core.proofs.OccLemmas.{top_occs}
use Rattle.go_tree_core.proofs.file_occurrences.visit_tops.Given as goal

abbrev pub invariant-loop-top : goal.invariant-loop-top
invariant-loop-top g l = g.V.Visitor.Sees l.fn.visitor (flat_map top_occs (take l.top-index l.top-items)) l.visitor
