use Rattle.std.proofs.Common.{List, length, map, refl, ap, subst, arith}
use Rattle.std.proofs.lemmas.List.{length-map}
use Rattle.go_block_core.specs.decl_core.Shown.{decl_shown}
use Rattle.go_block_core.specs.decl_core.declared.tops.TopDecl.{TopDecl}
use Rattle.go_doc_core.specs.symbol.mirrors.Docs.{HasNumberAt, docs_shown}
use Rattle.go_doc_core.proofs.SymbolRising.{shown_rising}
use Rattle.go_doc_core.proofs.SymbolShowing.{anchored, shown_at}
use Rattle.go_doc_core.proofs.symbol.docs.FileDocs.symbol.Goals as goal

pub place_of-place-requires-clause-rising : goal.place_of-place-requires-clause-rising
place_of-place-requires-clause-rising c = (let h = c.requires.docs.1 in shown_rising c.deref.result.now c.args.self.now.outline.decls.items h.tree c.deref.ensures.value h.decls)

pub index-anchor-requires : goal.index-anchor-requires
index-anchor-requires c =
    let many = anchored c.requires.docs.0 (docs_shown c.args.self.now) c.requires.docs.1 in
    let mapped = length-map c.args.self.now.outline.decls.items decl_shown in
    let same = ap length c.deref.ensures.value in
    omega (arith, c.place_of-place.ensures.bound, many, mapped, same, c.args.self.now.anchors.ok.0)

pub returns : goal.returns
returns c =
    let ds = c.deref.result.now in
    let many = anchored c.requires.docs.0 (docs_shown c.args.self.now) c.requires.docs.1 in
    let mapped = length-map c.args.self.now.outline.decls.items decl_shown in
    let same = ap length c.deref.ensures.value in
    shown_at (docs_shown c.args.self.now) c.args.decl c.args.self.now.outline.decls.items c.place_of-place.result c.index.result.now c.args.self.now.anchors.items c.index-anchor.result.now c.deref-2.result.now c.as_str.result.now c.doc_comment.result.now refl
    (subst (λ (xs : List TopDecl). HasNumberAt (map decl_shown xs) c.place_of-place.result c.args.decl.number) c.deref.ensures.value c.place_of-place.ensures.there) (omega (arith, c.place_of-place.ensures.bound, same)) c.index.ensures refl (omega (arith, c.place_of-place.ensures.bound, many, mapped, same)) c.index-anchor.ensures c.as_str.ensures c.deref-2.ensures.value c.doc_comment.ensures
