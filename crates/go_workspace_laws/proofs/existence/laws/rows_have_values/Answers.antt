use Rattle.go_workspace_laws.proofs.ExistenceFilling.{has_values}
use Rattle.go_workspace_laws.proofs.existence.laws.rows_have_values.Goals as goal

pub returns : goal.returns
returns g c = λ rows value local inside. has_values _ rows value local inside
