use Rattle.go_locality_laws.proofs.Staying.{parts_stay}
use Rattle.go_locality_laws.proofs.imports.parts_stay.Goals as goal

pub returns : goal.returns
returns c = parts_stay c.imports_decide_parts.ensures c.inputs_lead_inside.ensures
