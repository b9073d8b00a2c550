use Rattle.go_mset_core.proofs.Promoting.{promotes}
use Rattle.go_mset_core.proofs.laws.promotion.Goals as goal

pub returns : goal.returns
returns c = promotes
