use Rattle.go_declared_core.proofs.OwnTypes.{own_by_bytes}
use Rattle.go_declared_core.proofs.types_here.TypesHere.is_own.Goals as goal

pub returns : goal.returns
returns g c = own_by_bytes c.is_same.result c.args.self.now.path.now c.args.key.now.path c.is_same.ensures
