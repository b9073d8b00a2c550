use Rattle.std.proofs.Common.{List, length, map, refl, ap, subst, inr, arith}
use Rattle.std.proofs.lemmas.List.{length-map}
use Rattle.go_term_core.specs.decl_core.Shown.{decl_shown}
use Rattle.go_term_core.specs.decl_core.declared.tops.TopDecl.{TopDecl}
use Rattle.go_doc_core.specs.symbol.mirrors.Docs.{HasNumber, HasNumberAt}
use Rattle.go_doc_core.proofs.SymbolRising.{shown_rising}
use Rattle.go_doc_core.proofs.SymbolShowing.{anchored}
use Rattle.go_type_doc_core.specs.mirrors.Read.{read_shown}
use Rattle.go_type_doc_core.proofs.Remarks.{read_at}
use Rattle.go_type_doc_core.proofs.reading.FileDocs.doc.Goals as goal

pub place_of-requires : goal.place_of-requires
place_of-requires c = (let h = c.requires.1 in shown_rising c.deref.result.now c.args.self.now.outline.decls.items h.tree c.deref.ensures.value h.decls)

pub index-anchor-requires : goal.index-anchor-requires
index-anchor-requires c =
    let many = anchored c.requires.0 (read_shown c.args.self.now) c.requires.1 in
    let mapped = length-map c.args.self.now.outline.decls.items decl_shown in
    let same = ap length c.deref.ensures.value in
    omega (arith, c.in-Some.ensures.0, many, mapped, same, c.args.self.now.anchors.ok.0)

pub returns-in-Some : goal.returns-in-Some
returns-in-Some c =
    let many = anchored c.requires.0 (read_shown c.args.self.now) c.requires.1 in
    let mapped = length-map c.args.self.now.outline.decls.items decl_shown in
    let same = ap length c.deref.ensures.value in
    read_at (read_shown c.args.self.now) c.in-Some.place c.args.number c.args.self.now.anchors.items c.index-anchor.result.now c.deref-in-Some.result.now c.doc_comment.result.now
    (subst (λ (xs : List TopDecl). HasNumberAt (map decl_shown xs) c.in-Some.place c.args.number) c.deref.ensures.value c.in-Some.ensures.1) refl (omega (arith, c.in-Some.ensures.0, many, mapped, same)) c.index-anchor.ensures c.deref-in-Some.ensures.value c.doc_comment.ensures

pub returns-in-None : goal.returns-in-None
returns-in-None c = inr (subst (λ (xs : List TopDecl). HasNumber (map decl_shown xs) c.args.number → ⊥) c.deref.ensures.value c.in-None.ensures, refl)
