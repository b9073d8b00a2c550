use Rattle.std.proofs.Common.{◌∙◌}
use Rattle.std.proofs.lemmas.Result.{IfErr-weaker, IfOk-weaker}
use Rattle.go_package_core.specs.package_part.Inputs.{path_in}
use Rattle.go_query_core.proofs.Documented.{is_other}
use Rattle.go_query_core.proofs.Listed.{part_in_range}
use Rattle.go_type_doc_core.specs.TypeDocs.{type_doc_shown}
use Rattle.go_type_doc_core.proofs.Docs.{other_is, others_refused, own_is, own_refused}
use Rattle.go_type_doc_core.proofs.telling.type_doc_of.Goals as goal

pub other_type_doc-requires : goal.other_type_doc-requires
other_type_doc-requires c = part_in_range c.args.snapshot.now (path_in c.args.part.now.input) c.args.number c.args.part.now c.requires

pub returns-then-is_same-clause-ok : goal.returns-then-is_same-clause-ok
returns-then-is_same-clause-ok c =
    let same = c.is_same.ensures.0 c.if-is_same.true ∙ (c.as_str.ensures.text ∙ c.path.ensures) in
    IfOk-weaker c.own_type_doc.result _ _ (λ d h. own_is c.args.snapshot.now c.args.type_name.now c.args.number c.args.part.now c.requires c.args.path.now same (type_doc_shown d) h) c.own_type_doc.ensures.ok

pub returns-then-is_same-clause-err : goal.returns-then-is_same-clause-err
returns-then-is_same-clause-err c =
    let same = c.is_same.ensures.0 c.if-is_same.true ∙ (c.as_str.ensures.text ∙ c.path.ensures) in
    IfErr-weaker c.own_type_doc.result _ _ (λ rule h. own_refused c.args.snapshot.now c.args.type_name.now c.args.number c.args.part.now c.requires c.args.path.now same rule h) c.own_type_doc.ensures.err

pub returns-else-is_same-clause-ok : goal.returns-else-is_same-clause-ok
returns-else-is_same-clause-ok c =
    let other = is_other c.args.path.now c.as_str.result.now (path_in c.args.part.now.input) c.is_same.result c.is_same.ensures c.if-is_same.false (c.as_str.ensures.text ∙ c.path.ensures) in
    IfOk-weaker c.other_type_doc.result _ _ (λ d h. other_is c.args.snapshot.now c.args.type_name.now c.args.number c.args.part.now c.requires c.args.path.now other (type_doc_shown d) h) c.other_type_doc.ensures.ok

pub returns-else-is_same-clause-err : goal.returns-else-is_same-clause-err
returns-else-is_same-clause-err c =
    let other = is_other c.args.path.now c.as_str.result.now (path_in c.args.part.now.input) c.is_same.result c.is_same.ensures c.if-is_same.false (c.as_str.ensures.text ∙ c.path.ensures) in
    IfErr-weaker c.other_type_doc.result _ _ (λ rule h. others_refused c.args.snapshot.now c.args.type_name.now c.args.number c.args.part.now c.requires c.args.path.now other rule h) c.other_type_doc.ensures.err
