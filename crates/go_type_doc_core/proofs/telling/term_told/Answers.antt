use Rattle.std.proofs.Common.{map}
use Rattle.std.proofs.lemmas.Result.{IfOk-weaker}
use Rattle.go_type_doc_core.specs.members.Members.{type_member_shown}
use Rattle.go_type_doc_core.proofs.telling.term_told.Goals as goal

pub returns : goal.returns
returns c = IfOk-weaker c.all_told.result _ _ (λ told h. (map type_member_shown c.in_ok-members.members.items, c.in_ok-members.ensures, h)) c.all_told.ensures
