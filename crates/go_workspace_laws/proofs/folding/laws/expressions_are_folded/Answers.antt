use Rattle.go_workspace_laws.proofs.FoldingFolding.{expressions_folded}
use Rattle.go_workspace_laws.proofs.folding.laws.expressions_are_folded.Goals as goal

pub returns : goal.returns
returns g c = expressions_folded _ _ _ _
