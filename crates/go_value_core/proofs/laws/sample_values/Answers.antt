use Rattle.go_value_core.proofs.Worked.{sample_is_right}
use Rattle.go_value_core.proofs.laws.sample_values.Goals as goal

pub returns : goal.returns
returns c = sample_is_right
