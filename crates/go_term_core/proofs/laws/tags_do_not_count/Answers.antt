use Rattle.go_term_core.proofs.ByForm.{tags_do_not_count}
use Rattle.go_term_core.proofs.laws.tags_do_not_count.Goals as goal

pub returns : goal.returns
returns c = tags_do_not_count
