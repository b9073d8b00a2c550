use Rattle.std.specs.Prelude.{option_map}
use Rattle.std.proofs.lemmas.Result.{IfErr-weaker, IfOk-weaker}
use Rattle.std.proofs.Common.{inl}
use Rattle.go_term_core.specs.Shapes.{shape}
use Rattle.go_type_doc_core.specs.TypeDocs.{type_doc_shown}
use Rattle.go_type_doc_core.proofs.Docs.{shown_doc_of}
use Rattle.go_type_doc_core.proofs.telling.shown_type_doc.Goals as goal

pub returns-in-Ok-other_type-clause-ok : goal.returns-in-Ok-other_type-clause-ok
returns-in-Ok-other_type-clause-ok c =
    IfOk-weaker c.named_doc.result _ _ (λ d h. shown_doc_of c.args.snapshot.now c.args.type_name.now c.args.part.now (option_map shape c.in-Ok-other_type.term) c.in-Ok-other_type.ensures.ok c.args.from.now (type_doc_shown d) h) c.named_doc.ensures.ok

pub returns-in-Ok-other_type-clause-err : goal.returns-in-Ok-other_type-clause-err
returns-in-Ok-other_type-clause-err c = IfErr-weaker c.named_doc.result _ _ (λ rule h. inl h) c.named_doc.ensures.err
