use Rattle.go_block_core.proofs.HoldingLaws.{package_holds}
use Rattle.go_block_core.proofs.laws.package_has_the_first.Goals as goal

pub returns : goal.returns
returns c = package_holds
