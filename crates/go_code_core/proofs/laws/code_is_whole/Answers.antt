use Rattle.go_code_core.proofs.Each.{whole_code}
use Rattle.go_code_core.proofs.laws.code_is_whole.Goals as goal

pub returns : goal.returns
returns c = whole_code
