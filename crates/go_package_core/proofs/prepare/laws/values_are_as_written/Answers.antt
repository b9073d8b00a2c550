use Rattle.go_package_core.proofs.PrepareTables.{values_as_written}
use Rattle.go_package_core.proofs.prepare.laws.values_are_as_written.Goals as goal

pub returns : goal.returns
returns c = values_as_written
