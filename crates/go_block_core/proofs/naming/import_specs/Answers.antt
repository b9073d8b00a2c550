use Rattle.std.proofs.Common.{[], map, sym, ap, ◌∙◌}
use Rattle.std.specs.List.{flat_map}
use Rattle.std.proofs.lemmas.List.{take_all}
use Rattle.std.proofs.lemmas.List.Folds.{flat_map-map}
use Rattle.go_tree_nodes.specs.declared.files.ImportDecl.{ImportDecl}
use Rattle.go_tree_nodes.specs.Trees.{ImportTree}
use Rattle.go_tree_nodes.specs.Shapes.{import_of, shape_import_specs}
use Rattle.go_block_core.specs.Naming.{specs_in}
use Rattle.go_block_core.specs.mirrors.Shown.{spec_shown}
use Rattle.go_block_core.proofs.Pieces.{piece_more}
use Rattle.go_block_core.proofs.naming.import_specs.Goals as goal

pub loop-import-init : goal.loop-import-init
loop-import-init c = ap (map spec_shown) c.new-specs.ensures.items

pub loop-import-preserved : goal.loop-import-preserved
loop-import-preserved c = piece_more (λ (i : ImportDecl). specs_in (shape_import_specs i.specs)) [] _ _ c.deref-import-items.result.now c.loop-import.import-index c.import-item.result c.loop-import-test.true c.import-item.is c.loop-import.invariant c.in_ok-add_specs.ensures

pub returns : goal.returns
returns c =
    let all = take_all c.loop-import.import-index c.deref-import-items.result.now c.loop-import-test.false ∙ c.deref-import-items.ensures.value in
    c.loop-import.invariant
    ∙ (ap (flat_map (λ (i : ImportDecl). specs_in (shape_import_specs i.specs))) all
    ∙ sym (flat_map-map (λ (i : ImportTree). specs_in i.specs) import_of c.args.imports.now.items))
