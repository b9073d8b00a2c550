use Rattle.std.proofs.Common.{rules}
use Rattle.std.proofs.lemmas.List.Sorted.{answers_always}
use Rattle.go_type_doc_core.proofs.Searched.{searched}
use Rattle.go_type_doc_core.proofs.reading.place_of.Goals as goal

pub returns : goal.returns
returns c =
    let facts = c.binary_search_by_key.ensures in
    let by_key = facts.position (λ decl. decl.number) (answers_always _ _ _ (λ f a r g called. search rules)) in
    rw (c.ok.ensures.value) (searched c.args.decls.now c.args.number _ c.requires facts.bound by_key)
