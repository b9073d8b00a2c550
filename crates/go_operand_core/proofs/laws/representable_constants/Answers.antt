use Rattle.go_operand_core.proofs.Relating.{represented, represents}
use Rattle.go_operand_core.proofs.laws.representable_constants.Goals as goal

pub returns : goal.returns
returns g c = λ rules b d k p t h e. (represented rules b d k t h e, represents rules b d k t h e)
