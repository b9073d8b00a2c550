use Rattle.std.proofs.Common.{take}
use Rattle.std.specs.List.{flat_map}
use Rattle.go_tree_core.proofs.OccLemmas.{import_decl_occs}
use Rattle.go_tree_core.proofs.file_occurrences.visit_imports.Given as goal

abbrev pub invariant-loop-import : goal.invariant-loop-import
invariant-loop-import g l = g.V.Visitor.Sees l.fn.visitor (flat_map import_decl_occs (take l.import-index l.import-items)) l.visitor
