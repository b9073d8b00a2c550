use Rattle.go_workspace_laws.proofs.ExistenceParts.{inputs_have_parts}
use Rattle.go_workspace_laws.proofs.existence.laws.inputs_have_parts.Goals as goal

pub returns : goal.returns
returns c = inputs_have_parts c.values_are_as_written.ensures
