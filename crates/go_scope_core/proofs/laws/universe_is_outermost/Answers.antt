use Rattle.go_scope_core.proofs.LawLemmas.{universe_outermost}
use Rattle.go_scope_core.proofs.laws.universe_is_outermost.Goals as goal

pub returns : goal.returns
returns c = universe_outermost
