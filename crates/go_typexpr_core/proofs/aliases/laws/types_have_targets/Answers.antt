use Rattle.go_typexpr_core.proofs.AliasesOutlining.{types_have_targets}
use Rattle.go_typexpr_core.proofs.aliases.laws.types_have_targets.Goals as goal

pub returns : goal.returns
returns c = types_have_targets
