use Rattle.std.proofs.Common.{inr}
use Rattle.std.specs.Prelude.{option_map}
use Rattle.std.proofs.lemmas.Result.{IfErr-weaker, IfOk-weaker}
use Rattle.go_term_core.specs.Shapes.{shape}
use Rattle.go_type_doc_core.proofs.Lent.{none_shown, nothing_shown, some_shown}
use Rattle.go_type_doc_core.proofs.naming.face_type.Goals as goal

pub returns-in-Some-clause-ok : goal.returns-in-Some-clause-ok
returns-in-Some-clause-ok c = IfOk-weaker c.shown_type.result _ _ (λ t h. some_shown c.args.face c.in-Some.face c.in-Some.is (option_map shape t) h) c.shown_type.ensures.ok

pub returns-in-Some-clause-err : goal.returns-in-Some-clause-err
returns-in-Some-clause-err c = IfErr-weaker c.shown_type.result _ _ (λ rule h. none_shown c.args.face c.in-Some.face c.in-Some.is rule h) c.shown_type.ensures.err

pub returns-in-None-clause-err : goal.returns-in-None-clause-err
returns-in-None-clause-err c = inr (nothing_shown c.args.face c.in-None.is)
