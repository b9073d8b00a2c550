use Rattle.go_decl_core.proofs.Worked.{sample_is_right}
use Rattle.go_decl_core.proofs.laws.sample_is_right.Goals as goal

pub returns : goal.returns
returns c = sample_is_right
