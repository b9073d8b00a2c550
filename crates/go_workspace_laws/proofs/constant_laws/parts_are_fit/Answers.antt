use Rattle.go_workspace_laws.proofs.Fitting.{parts_fit}
use Rattle.go_workspace_laws.proofs.constant_laws.parts_are_fit.Goals as goal

pub returns : goal.returns
returns c = parts_fit
