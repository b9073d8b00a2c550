use Rattle.go_scope_core.proofs.LawLemmas.{local_hides}
use Rattle.go_scope_core.proofs.laws.local_hides.Goals as goal

pub returns : goal.returns
returns c = local_hides
