use Rattle.std.proofs.Common.{take}
use Rattle.std.specs.List.{flat_map}
use Rattle.go_tree_core.proofs.OccLemmas.{line_occs}
use Rattle.go_tree_core.proofs.stmt_occurrences.+visit.Given as goal

abbrev pub invariant-visit_lines-loop-line : goal.invariant-visit_lines-loop-line
invariant-visit_lines-loop-line g l = g.V.Visitor.Sees l.fn.visitor (flat_map line_occs (take l.line-index l.line-items)) l.visitor
