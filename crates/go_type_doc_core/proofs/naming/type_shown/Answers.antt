use Rattle.std.proofs.Common.{inr}
use Rattle.std.specs.Prelude.{option_map}
use Rattle.std.proofs.lemmas.Result.{IfErr-weaker, IfOk-weaker}
use Rattle.go_term_core.specs.Shapes.{shape}
use Rattle.go_type_doc_core.proofs.Lent.{absent_none, declared_none, declared_shown, hidden_none}
use Rattle.go_type_doc_core.proofs.naming.type_shown.Goals as goal

pub returns-in-Absent-clause-err : goal.returns-in-Absent-clause-err
returns-in-Absent-clause-err c = inr (absent_none c.args.shown c.in-Absent.is)

pub returns-in-Hidden-clause-err : goal.returns-in-Hidden-clause-err
returns-in-Hidden-clause-err c = inr (hidden_none c.args.shown c.in-Hidden.is)

pub returns-in-Shown-clause-ok : goal.returns-in-Shown-clause-ok
returns-in-Shown-clause-ok c = IfOk-weaker c.face_type.result _ _ (λ t h. declared_shown c.args.shown c.in-Shown.field-0 c.in-Shown.face c.in-Shown.is (option_map shape t) h) c.face_type.ensures.ok

pub returns-in-Shown-clause-err : goal.returns-in-Shown-clause-err
returns-in-Shown-clause-err c = IfErr-weaker c.face_type.result _ _ (λ rule h. declared_none c.args.shown c.in-Shown.field-0 c.in-Shown.face c.in-Shown.is rule h) c.face_type.ensures.err
