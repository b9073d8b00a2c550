use Rattle.go_workspace_laws.proofs.FoldingFolding.{expressions_typed}
use Rattle.go_workspace_laws.proofs.folding.laws.expressions_are_typed.Goals as goal

pub returns : goal.returns
returns g c = expressions_typed _ _ _ _
