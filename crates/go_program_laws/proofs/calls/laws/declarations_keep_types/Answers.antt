use Rattle.go_program_laws.proofs.CallsDeclared.{declarations_keep}
use Rattle.go_program_laws.proofs.calls.laws.declarations_keep_types.Goals as goal

pub returns : goal.returns
returns c = declarations_keep
