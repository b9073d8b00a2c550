use Rattle.go_local_core.proofs.DenotedLemmas.{one_is_denoted}
use Rattle.go_local_core.proofs.laws.one_is_denoted.Goals as goal

pub returns : goal.returns
returns g c = one_is_denoted _ _
