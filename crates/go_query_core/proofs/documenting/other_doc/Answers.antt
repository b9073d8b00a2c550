use Rattle.std.proofs.Common.{inl}
use Rattle.std.proofs.lemmas.Result.{IfErr-weaker, IfOk-weaker}
use Rattle.go_query_core.specs.Documenting.{doc_shown}
use Rattle.go_query_core.proofs.Documented.{imported_doc}
use Rattle.go_query_core.proofs.documenting.other_doc.Goals as goal

pub returns-in-Ok-clause-ok : goal.returns-in-Ok-clause-ok
returns-in-Ok-clause-ok c = IfOk-weaker c.exported_doc.result _ _ (λ d h. imported_doc c.args.snapshot.now c.args.own c.args.path.now c.in-Ok.part.now c.in-Ok.ensures.ok (doc_shown d) h) c.exported_doc.ensures.ok

pub returns-in-Ok-clause-err : goal.returns-in-Ok-clause-err
returns-in-Ok-clause-err c = IfErr-weaker c.exported_doc.result _ _ (λ rule h. inl h) c.exported_doc.ensures.err
