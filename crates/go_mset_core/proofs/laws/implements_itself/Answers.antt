use Rattle.go_mset_core.proofs.Interfaces.{itself_implements}
use Rattle.go_mset_core.proofs.laws.implements_itself.Goals as goal

pub returns : goal.returns
returns c = itself_implements
