use Rattle.std.proofs.Common.{ℕ, List, refl, inl, inr, sym, ◌∙◌, subst}
use Rattle.std.proofs.lemmas.Result.{IfOk-weaker, on_ok_weaker}
use Rattle.go_snap_core.specs.Snapshots.{IsPartAt}
use Rattle.go_type_doc_core.specs.Comments.{IsMethodDoc}
use Rattle.go_type_doc_core.proofs.Kept.{path_at}
use Rattle.go_type_doc_core.proofs.reading.method_doc.Goals as goal

pub found_doc-requires : goal.found_doc-requires
found_doc-requires c = (c.args.snapshot.now, c.requires)

pub returns-in-Some-found_doc-clause-doc : goal.returns-in-Some-found_doc-clause-doc
returns-in-Some-found_doc-clause-doc c =
    let s = c.args.snapshot.now in
    let same = c.as_str.ensures.text ∙ (c.path.ensures ∙ path_at s c.sources-sources.ensures.whole c.args.path.now c.in-Some.part.now c.in-Some.ensures) in
    subst (λ (p : List ℕ). IsMethodDoc s (p, c.args.decl) c.in-Some-found_doc.doc.now) same (c.in-Some-found_doc.ensures s c.requires)

pub returns-in-None-found_doc-clause-read : goal.returns-in-None-found_doc-clause-read
returns-in-None-found_doc-clause-read c =
    let s = c.args.snapshot.now in
    let same = path_at s c.sources-sources.ensures.whole c.args.path.now c.in-Some.part.now c.in-Some.ensures in
    let at = subst (λ (p : List ℕ). IsPartAt s.sources s.parts p c.in-Some.part.now) (sym same) c.in-Some.ensures in
    on_ok_weaker c.new_doc.result (λ h. h s at c.requires) c.new_doc.ensures.read

pub returns-in-None-found_doc-clause-doc : goal.returns-in-None-found_doc-clause-doc
returns-in-None-found_doc-clause-doc c = IfOk-weaker c.new_doc.result _ _ (λ doc h. inl (c.in-Some.part.now, c.in-Some.ensures, h)) c.new_doc.ensures.doc

pub returns-in-None-clause-doc : goal.returns-in-None-clause-doc
returns-in-None-clause-doc c = inr (c.in-None.ensures, refl)
