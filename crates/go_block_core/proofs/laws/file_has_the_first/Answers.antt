use Rattle.go_block_core.proofs.HoldingLaws.{file_holds}
use Rattle.go_block_core.proofs.laws.file_has_the_first.Goals as goal

pub returns : goal.returns
returns c = file_holds
