use Rattle.go_constant_core.proofs.Meanings.{exactly}
use Rattle.go_constant_core.proofs.laws.differences_are_exact.Goals as goal

pub returns : goal.returns
returns c = λ a b. exactly _
