use Rattle.go_type_doc_core.proofs.Elsewhere.{members_local}
use Rattle.go_type_doc_core.proofs.laws.members_are_local.Goals as goal

pub returns : goal.returns
returns c = members_local
