use Rattle.go_doc_core.proofs.OneComment.{has_doc_comment, has_no_other}
use Rattle.go_doc_core.proofs.laws.one_doc_comment.Goals as goal

pub returns-clause-some : goal.returns-clause-some
returns-clause-some c = has_doc_comment

pub returns-clause-only : goal.returns-clause-only
returns-clause-only c = has_no_other
