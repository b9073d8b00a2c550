use Rattle.go_value_core.proofs.Owning.{specifications_alike}
use Rattle.go_value_core.proofs.laws.specifications_are_alike.Goals as goal

pub returns : goal.returns
returns g c = specifications_alike
