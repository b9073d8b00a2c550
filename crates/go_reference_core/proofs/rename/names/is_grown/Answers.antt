use Rattle.std.proofs.Common.{arith}
use Rattle.go_reference_core.proofs.RenameKept.{number_test}
use Rattle.go_reference_core.proofs.RenameMoved.{beyond}
use Rattle.go_reference_core.proofs.rename.names.is_grown.Goals as goal

pub returns-in-Some : goal.returns-in-Some
returns-in-Some c = number_test c.in-Some.at c.args.other _ c.in-Some.ensures

pub returns-in-None : goal.returns-in-None
returns-in-None c = beyond c.args.other _ (omega arith) c.in-None.ensures
