use Rattle.go_denote_core.proofs.CompositeKeyLaws.{keys_local}
use Rattle.go_denote_core.proofs.composite.laws.keys_are_local.Goals as goal

pub returns : goal.returns
returns g c = keys_local
