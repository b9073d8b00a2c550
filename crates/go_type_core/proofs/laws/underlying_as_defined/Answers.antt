use Rattle.go_type_core.proofs.Together.{underlying_as_defined}
use Rattle.go_type_core.proofs.laws.underlying_as_defined.Goals as goal

pub returns : goal.returns
returns c = underlying_as_defined
