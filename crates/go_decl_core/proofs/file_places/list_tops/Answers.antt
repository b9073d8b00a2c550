use Rattle.std.proofs.lemmas.List.Folds.{flat_map-map}
use Rattle.go_tree_nodes.specs.declared.files.TopDecl.{TopDecl}
use Rattle.go_tree_nodes.specs.Shapes.{decl_of, top_of}
use Rattle.go_decl_core.specs.Outer.{decl_outers}
use Rattle.go_decl_core.specs.TopDecls.{decl_decls}
use Rattle.go_decl_core.proofs.Listed.{lists_step, lists_whole}
use Rattle.go_decl_core.proofs.ListLemmas.{numbered_map}
use Rattle.go_decl_core.proofs.file_places.list_tops.Goals as goal

pub loop-top-preserved : goal.loop-top-preserved
loop-top-preserved c = lists_step (λ (top : TopDecl). decl_outers (decl_of top.decl)) (λ n top. decl_decls n (decl_of top.decl)) _ _ c.deref-top-items.result.now c.loop-top.top-index c.top-item.result c.loop-top-test.true c.top-item.is c.loop-top.invariant c.list_decl.ensures

pub returns : goal.returns
returns c =
    let tops = c.args.tops.now.items in
    lists_whole (λ (top : TopDecl). decl_outers (decl_of top.decl)) (λ n top. decl_decls n (decl_of top.decl)) _ _ c.deref-top-items.result.now tops c.loop-top.top-index _ _ c.deref-top-items.ensures.value c.loop-top-test.false (flat_map-map (λ t. decl_outers t.decl) top_of tops) (λ n. numbered_map (λ t. decl_outers t.decl) (λ n t. decl_decls n t.decl) top_of n tops) c.loop-top.invariant
