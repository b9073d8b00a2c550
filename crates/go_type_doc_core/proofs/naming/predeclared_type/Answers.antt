use Rattle.std.proofs.Common.{inl}
use Rattle.std.proofs.lemmas.Result.{IfErr-weaker}
use Rattle.go_type_doc_core.proofs.naming.predeclared_type.Goals as goal

pub returns-in-Any-clause-err : goal.returns-in-Any-clause-err
returns-in-Any-clause-err c = IfErr-weaker c.any_type.result _ _ (λ rule h. inl h) c.any_type.ensures.err
