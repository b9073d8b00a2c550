use Rattle.std.proofs.lemmas.Result.{IfErr-weaker, IfOk-weaker}
use Rattle.go_type_doc_core.specs.TypeDocs.{type_doc_shown}
use Rattle.go_type_doc_core.proofs.Docs.{import_stop, other_doc_of, other_stop}
use Rattle.go_type_doc_core.proofs.telling.other_type_doc.Goals as goal

pub returns-in-Ok-clause-ok : goal.returns-in-Ok-clause-ok
returns-in-Ok-clause-ok c =
    IfOk-weaker c.shown_type_doc.result _ _ (λ d h. other_doc_of c.args.snapshot.now c.args.type_name.now c.args.number c.args.part.now c.args.path.now c.in-Ok.other.now c.in-Ok.ensures.ok c.content-content.ensures.made _ c.path.ensures (type_doc_shown d) h) c.shown_type_doc.ensures.ok

pub returns-in-Ok-clause-err : goal.returns-in-Ok-clause-err
returns-in-Ok-clause-err c =
    IfErr-weaker c.shown_type_doc.result _ _ (λ rule h. other_stop c.args.snapshot.now c.args.type_name.now c.args.number c.args.part.now c.args.path.now c.in-Ok.other.now c.in-Ok.ensures.ok c.content-content.ensures.made rule h) c.shown_type_doc.ensures.err

pub returns-in-Err-clause-err : goal.returns-in-Err-clause-err
returns-in-Err-clause-err c = import_stop c.args.snapshot.now c.args.type_name.now c.args.number c.args.part.now c.args.path.now c.in-Err.rule c.in-Err.ensures.err
