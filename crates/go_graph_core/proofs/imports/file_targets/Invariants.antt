use Rattle.std.proofs.Common.{take}
use Rattle.std.specs.List.{AllZip, flat_map}
use Rattle.go_tree_nodes.specs.declared.files.ImportDecl.{ImportDecl}
use Rattle.go_tree_nodes.specs.Shapes.{shape_import_specs}
use Rattle.go_graph_core.specs.Imports.{IsTarget, texts_in}
use Rattle.go_graph_core.proofs.imports.file_targets.Given as goal

abbrev pub invariant-loop-import : goal.invariant-loop-import
invariant-loop-import l = AllZip (IsTarget l.fn.packages l.fn.from) (flat_map (λ (i : ImportDecl). texts_in (shape_import_specs i.specs)) (take l.import-index l.import-items)) l.targets.items
