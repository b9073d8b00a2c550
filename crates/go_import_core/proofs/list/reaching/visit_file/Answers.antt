use Rattle.std.proofs.Common.{◌≡◌, ◌∙◌, sym, ap, subst, List, ℕ, take, Ok}
use Rattle.std.specs.List.{flat_map}
use Rattle.std.proofs.lemmas.List.{take_all}
use Rattle.std.proofs.lemmas.List.Folds.{flat_map-map}
use Rattle.go_tree_nodes.specs.declared.files.ImportDecl.{ImportDecl}
use Rattle.go_tree_nodes.specs.Trees.{ImportTree}
use Rattle.go_tree_nodes.specs.Shapes.{file_of, import_of, shape_import_specs}
use Rattle.go_graph_core.specs.Imports.{content_texts, texts_in}
use Rattle.go_import_core.specs.list.mirrors.Visits.{IsTargetOf, Visits}
use Rattle.go_import_core.proofs.ListVisited.{texts_more}
use Rattle.go_import_core.proofs.list.reaching.visit_file.Goals as goal

pub loop-import-preserved : goal.loop-import-preserved
loop-import-preserved c =
    texts_more c.args.packages.now c.args.from.now (λ (i : ImportDecl). texts_in (shape_import_specs i.specs)) c.deref-import-items.result.now c.loop-import.import-index c.import-item.result c.args.marks.now c.loop-import.marks c.visit_specs.new.marks c.args.stack.now.items c.loop-import.stack.items c.visit_specs.new.stack.items c.loop-import-test.true c.import-item.is c.loop-import.invariant c.in_ok-visit_specs.ensures

pub returns : goal.returns
returns c =
    let P = λ (l : List (List ℕ)). Visits (IsTargetOf c.args.packages.now c.args.from.now l) c.args.marks.now c.loop-import.marks c.args.stack.now.items c.loop-import.stack.items in
    let imports = c.in-Ok.tree.now.imports.items in
    let all : take c.loop-import.import-index c.deref-import-items.result.now ≡ imports = take_all c.loop-import.import-index c.deref-import-items.result.now c.loop-import-test.false ∙ c.deref-import-items.ensures.value in
    let texts = flat_map-map (λ (i : ImportTree). texts_in i.specs) import_of imports in
    let these : P (content_texts (Ok (file_of c.in-Ok.tree.now))) = subst P (ap (flat_map (λ (i : ImportDecl). texts_in (shape_import_specs i.specs))) all ∙ sym texts) c.loop-import.invariant in
    subst (λ r. P (content_texts r)) c.in-Ok.ensures.value these
