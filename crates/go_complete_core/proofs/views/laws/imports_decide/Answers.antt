use Rattle.go_complete_core.proofs.ViewsAlike.{decided}
use Rattle.go_complete_core.proofs.views.laws.imports_decide.Goals as goal

pub returns : goal.returns
returns c = decided c.imports_bind_theirs.ensures
