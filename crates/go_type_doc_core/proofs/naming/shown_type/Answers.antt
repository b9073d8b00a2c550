use Rattle.std.proofs.Common.{inr, sym, subst, ◌∙◌}
use Rattle.std.proofs.lemmas.Result.{IfErr-weaker, IfOk-weaker}
use Rattle.go_type_doc_core.specs.mirrors.Named.{IsNoTypeFace}
use Rattle.go_type_doc_core.proofs.naming.shown_type.Goals as goal

pub returns-in-Ok-clause-ok : goal.returns-in-Ok-clause-ok
returns-in-Ok-clause-ok c = IfOk-weaker c.held_type.result _ _ (λ t h. sym c.in-Ok.ensures ∙ h) c.held_type.ensures.ok

pub returns-in-Ok-clause-err : goal.returns-in-Ok-clause-err
returns-in-Ok-clause-err c = IfErr-weaker c.held_type.result _ _ (λ rule h. inr (h.0, subst IsNoTypeFace c.in-Ok.ensures h.1)) c.held_type.ensures.err
