use Rattle.go_constant_core.proofs.Meanings.{exactly}
use Rattle.go_constant_core.proofs.laws.negation_is_exact.Goals as goal

pub returns : goal.returns
returns c = λ a. exactly _
