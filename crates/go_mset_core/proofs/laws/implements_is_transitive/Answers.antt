use Rattle.go_mset_core.proofs.Interfaces.{transitive}
use Rattle.go_mset_core.proofs.laws.implements_is_transitive.Goals as goal

pub returns : goal.returns
returns c = transitive
