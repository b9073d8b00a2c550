use Rattle.std.proofs.Common.{sym, ◌∙◌, inr}
use Rattle.go_type_doc_core.proofs.Behind.{blank_shown}
use Rattle.go_type_doc_core.proofs.naming.other_type.Goals as goal

pub returns-then-is_blank-clause-err : goal.returns-then-is_blank-clause-err
returns-then-is_blank-clause-err c = inr (blank_shown c.args.part.now c.args.name.now (sym c.is_blank.ensures ∙ c.if-is_blank.true))
