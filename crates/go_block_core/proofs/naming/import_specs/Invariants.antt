use Rattle.std.proofs.Common.{◌≡◌, take, map}
use Rattle.std.specs.List.{flat_map}
use Rattle.go_tree_nodes.specs.declared.files.ImportDecl.{ImportDecl}
use Rattle.go_tree_nodes.specs.Shapes.{shape_import_specs}
use Rattle.go_block_core.specs.Naming.{specs_in}
use Rattle.go_block_core.specs.mirrors.Shown.{spec_shown}
use Rattle.go_block_core.proofs.naming.import_specs.Given as goal

abbrev pub invariant-loop-import : goal.invariant-loop-import
invariant-loop-import l = map spec_shown l.specs.items ≡ flat_map (λ (i : ImportDecl). specs_in (shape_import_specs i.specs)) (take l.import-index l.import-items)
