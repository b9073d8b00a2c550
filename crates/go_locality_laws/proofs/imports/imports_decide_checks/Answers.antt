use Rattle.go_locality_laws.proofs.Checking.{imports_decide}
use Rattle.go_locality_laws.proofs.imports.imports_decide_checks.Goals as goal

pub returns : goal.returns
returns c = imports_decide c.check_is_local.ensures
