use Rattle.go_mset_core.proofs.MethodSorts.{one_set}
use Rattle.go_mset_core.proofs.laws.one_method_set.Goals as goal

pub returns : goal.returns
returns c = one_set
