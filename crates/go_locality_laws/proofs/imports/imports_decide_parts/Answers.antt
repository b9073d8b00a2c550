use Rattle.go_locality_laws.proofs.Parting.{imports_decide_parts}
use Rattle.go_locality_laws.proofs.imports.imports_decide_parts.Goals as goal

pub returns : goal.returns
returns c = imports_decide_parts c.imports_decide_checks.ensures c.imports_bind_theirs.ensures
