use Rattle.go_block_core.proofs.HoldingLaws.{never_hidden}
use Rattle.go_block_core.proofs.laws.package_is_never_hidden.Goals as goal

pub returns : goal.returns
returns c = never_hidden
