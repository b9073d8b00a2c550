use Rattle.go_locality_laws.proofs.Staying.{inputs_lead}
use Rattle.go_locality_laws.proofs.imports.inputs_lead_inside.Goals as goal

pub returns : goal.returns
returns c = inputs_lead c.check_is_local.ensures c.imports_bind_theirs.ensures
