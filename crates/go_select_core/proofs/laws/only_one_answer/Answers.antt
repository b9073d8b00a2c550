use Rattle.go_select_core.proofs.Meanings.{one_answer}
use Rattle.go_select_core.proofs.laws.only_one_answer.Goals as goal

pub returns : goal.returns
returns c = one_answer
