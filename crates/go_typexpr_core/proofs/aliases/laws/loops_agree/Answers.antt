use Rattle.go_typexpr_core.proofs.AliasesLooping.{loops_agree}
use Rattle.go_typexpr_core.proofs.aliases.laws.loops_agree.Goals as goal

pub returns : goal.returns
returns c = loops_agree
