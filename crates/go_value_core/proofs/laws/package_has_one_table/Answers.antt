use Rattle.go_value_core.proofs.Deciding.{one_answer}
use Rattle.go_value_core.proofs.laws.package_has_one_table.Goals as goal

pub returns : goal.returns
returns c = one_answer
