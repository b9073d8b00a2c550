use Rattle.go_typexpr_core.proofs.AliasesEnding.{targets_are_ends}
use Rattle.go_typexpr_core.proofs.aliases.laws.targets_are_ends.Goals as goal

pub returns : goal.returns
returns c = targets_are_ends
