use Rattle.std.proofs.Common.{inl, ◌∙◌}
use Rattle.std.proofs.lemmas.Result.{IfErr-weaker, IfOk-weaker}
use Rattle.go_complete_core.specs.package_core.PackagePartInputs.{path_in}
use Rattle.go_query_core.specs.Documenting.{doc_shown}
use Rattle.go_query_core.proofs.Documented.{is_other, is_refused, other_is, own_is}
use Rattle.go_query_core.proofs.Listed.{part_in_range}
use Rattle.go_query_core.proofs.documenting.doc_of.Goals as goal

pub other_doc-requires : goal.other_doc-requires
other_doc-requires c = part_in_range c.args.snapshot.now (path_in c.args.part.now.input) c.args.number c.args.part.now c.requires

pub returns-then-is_same-clause-ok : goal.returns-then-is_same-clause-ok
returns-then-is_same-clause-ok c =
    let same = c.is_same.ensures.0 c.if-is_same.true ∙ (c.as_str.ensures.text ∙ c.path.ensures) in
    IfOk-weaker c.own_doc.result _ _ (λ d h. own_is c.args.snapshot.now c.args.number c.args.part.now c.requires c.args.path.now same (doc_shown d) h) c.own_doc.ensures.ok

pub returns-then-is_same-clause-err : goal.returns-then-is_same-clause-err
returns-then-is_same-clause-err c = IfErr-weaker c.own_doc.result _ _ (λ rule h. inl h) c.own_doc.ensures.err

pub returns-else-is_same-clause-ok : goal.returns-else-is_same-clause-ok
returns-else-is_same-clause-ok c =
    let other = is_other c.args.path.now c.as_str.result.now (path_in c.args.part.now.input) c.is_same.result c.is_same.ensures c.if-is_same.false (c.as_str.ensures.text ∙ c.path.ensures) in
    IfOk-weaker c.other_doc.result _ _ (λ d h. other_is c.args.snapshot.now c.args.number c.args.part.now c.requires c.args.path.now other (doc_shown d) h) c.other_doc.ensures.ok

pub returns-else-is_same-clause-err : goal.returns-else-is_same-clause-err
returns-else-is_same-clause-err c =
    let other = is_other c.args.path.now c.as_str.result.now (path_in c.args.part.now.input) c.is_same.result c.is_same.ensures c.if-is_same.false (c.as_str.ensures.text ∙ c.path.ensures) in
    IfErr-weaker c.other_doc.result _ _ (λ rule h. is_refused c.args.snapshot.now c.args.number c.args.part.now c.requires c.args.path.now other rule h) c.other_doc.ensures.err
