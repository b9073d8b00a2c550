use Rattle.go_emit_core.proofs.Importing.{imports_pass}
use Rattle.go_emit_core.proofs.laws.imports_pass.Goals as goal

pub returns : goal.returns
returns c = imports_pass
