use Rattle.go_typexpr_core.proofs.AliasesEnding.{one_target}
use Rattle.go_typexpr_core.proofs.aliases.laws.one_target.Goals as goal

pub returns : goal.returns
returns c = one_target
