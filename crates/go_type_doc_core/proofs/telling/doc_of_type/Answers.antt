use Rattle.std.proofs.Common.{ℕ, List, sym, subst}
use Rattle.std.proofs.lemmas.Result.{IfErr-weaker, IfOk-weaker}
use Rattle.go_query_core.specs.Parts.{IsPartOf}
use Rattle.go_query_core.proofs.Listed.{path_is}
use Rattle.go_type_doc_core.specs.TypeDocs.{IsTypeDoc, type_doc_shown}
use Rattle.go_type_doc_core.proofs.Docs.{refused_from}
use Rattle.go_type_doc_core.proofs.telling.doc_of_type.Goals as goal

pub type_doc_of-requires : goal.type_doc_of-requires
type_doc_of-requires c =
    let s = c.args.snapshot.now in
    let same = path_is s c.sources-sources.ensures.whole c.args.from.now c.in-Some.number c.in-Some.part.now c.in-Some.ensures in
    subst (λ (p : List ℕ). IsPartOf s p c.in-Some.number c.in-Some.part.now) (sym same) c.in-Some.ensures

pub returns-in-Some-clause-ok : goal.returns-in-Some-clause-ok
returns-in-Some-clause-ok c =
    let s = c.args.snapshot.now in
    let same = path_is s c.sources-sources.ensures.whole c.args.from.now c.in-Some.number c.in-Some.part.now c.in-Some.ensures in
    IfOk-weaker c.type_doc_of.result _ _ (λ d h. subst (λ (p : List ℕ). IsTypeDoc s p c.args.path.now c.args.type_name.now (type_doc_shown d)) same h) c.type_doc_of.ensures.ok

pub returns-in-Some-clause-err : goal.returns-in-Some-clause-err
returns-in-Some-clause-err c =
    let s = c.args.snapshot.now in
    let same = path_is s c.sources-sources.ensures.whole c.args.from.now c.in-Some.number c.in-Some.part.now c.in-Some.ensures in
    IfErr-weaker c.type_doc_of.result _ _ (λ rule h. refused_from s c.args.type_name.now c.args.from.now _ c.args.path.now same rule h) c.type_doc_of.ensures.err
