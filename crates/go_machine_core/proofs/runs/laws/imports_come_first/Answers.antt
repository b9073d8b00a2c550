use Rattle.go_machine_core.proofs.RunsBehind.{imports_come_first}
use Rattle.go_machine_core.proofs.runs.laws.imports_come_first.Goals as goal

pub returns : goal.returns
returns c = imports_come_first
