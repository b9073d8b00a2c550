use Rattle.go_workspace_laws.proofs.FoldingFolding.{constants_folded}
use Rattle.go_workspace_laws.proofs.folding.laws.constants_are_folded.Goals as goal

pub returns : goal.returns
returns g c = constants_folded _ _ _ _
