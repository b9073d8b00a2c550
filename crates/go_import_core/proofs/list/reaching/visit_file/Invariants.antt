use Rattle.std.proofs.Common.{take}
use Rattle.std.specs.List.{flat_map}
use Rattle.go_tree_nodes.specs.declared.files.ImportDecl.{ImportDecl}
use Rattle.go_tree_nodes.specs.Shapes.{shape_import_specs}
use Rattle.go_graph_core.specs.Imports.{texts_in}
use Rattle.go_import_core.specs.list.mirrors.Visits.{IsTargetOf, Visits}
use Rattle.go_import_core.proofs.list.reaching.visit_file.Given as goal

abbrev pub invariant-loop-import : goal.invariant-loop-import
invariant-loop-import l = Visits (IsTargetOf l.packages l.from (flat_map (λ (i : ImportDecl). texts_in (shape_import_specs i.specs)) (take l.import-index l.import-items))) l.initial.marks l.marks l.initial.stack.items l.stack.items
