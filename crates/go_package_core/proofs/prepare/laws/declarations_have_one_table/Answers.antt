use Rattle.go_package_core.proofs.PrepareTables.{have_one_table}
use Rattle.go_package_core.proofs.prepare.laws.declarations_have_one_table.Goals as goal

pub returns : goal.returns
returns c = have_one_table
