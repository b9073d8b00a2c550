use Rattle.go_code_core.proofs.Each.{outside_alone}
use Rattle.go_code_core.proofs.laws.outside_is_alone.Goals as goal

pub returns : goal.returns
returns c = outside_alone
