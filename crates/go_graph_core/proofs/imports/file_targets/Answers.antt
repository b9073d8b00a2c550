use Rattle.std.proofs.Common.{◌≡◌, ◌∙◌, sym, ap, subst, List, ℕ, take, Ok}
use Rattle.std.specs.List.{AllZip, flat_map}
use Rattle.std.proofs.lemmas.List.{take_all}
use Rattle.std.proofs.lemmas.List.Folds.{flat_map-map}
use Rattle.go_tree_nodes.specs.declared.files.ImportDecl.{ImportDecl}
use Rattle.go_tree_nodes.specs.Trees.{ImportTree}
use Rattle.go_tree_nodes.specs.Shapes.{file_of, import_of, shape_import_specs}
use Rattle.go_graph_core.specs.Imports.{IsTarget, content_texts, texts_in}
use Rattle.go_graph_core.proofs.Additions.{zip_adds}
use Rattle.go_graph_core.proofs.imports.file_targets.Goals as goal

pub loop-import-preserved : goal.loop-import-preserved
loop-import-preserved c = zip_adds (IsTarget c.args.packages.now c.args.from.now) (λ (i : ImportDecl). texts_in (shape_import_specs i.specs)) c.deref-import-items.result.now c.loop-import.import-index c.import-item.result c.loop-import.targets.items c.add_targets.new.targets.items c.loop-import-test.true c.import-item.is c.loop-import.invariant c.in_ok-add_targets.ensures

pub returns : goal.returns
returns c =
    let imports = c.in-Ok.tree.now.imports.items in
    let R = IsTarget c.args.packages.now c.args.from.now in
    let all : take c.loop-import.import-index c.deref-import-items.result.now ≡ imports = take_all c.loop-import.import-index c.deref-import-items.result.now c.loop-import-test.false ∙ c.deref-import-items.ensures.value in
    let texts = flat_map-map (λ (i : ImportTree). texts_in i.specs) import_of imports in
    let these : AllZip R (content_texts (Ok (file_of c.in-Ok.tree.now))) c.loop-import.targets.items = subst (λ (l : List (List ℕ)). AllZip R l c.loop-import.targets.items) (ap (flat_map (λ (i : ImportDecl). texts_in (shape_import_specs i.specs))) all ∙ sym texts) c.loop-import.invariant in
    subst (λ r. AllZip R (content_texts r) c.loop-import.targets.items) c.in-Ok.ensures.value these
