use Rattle.go_typexpr_core.proofs.AliasesWorked.{worked}
use Rattle.go_typexpr_core.proofs.aliases.laws.worked_aliases.Goals as goal

pub returns : goal.returns
returns c = worked
