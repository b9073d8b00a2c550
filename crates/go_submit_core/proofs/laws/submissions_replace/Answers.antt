use Rattle.go_submit_core.proofs.Sounds.{submitted_push}
use Rattle.go_submit_core.proofs.laws.submissions_replace.Goals as goal

pub returns : goal.returns
returns c = submitted_push
