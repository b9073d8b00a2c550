use Rattle.go_package_core.proofs.Meanings.{one_check as one}
use Rattle.go_package_core.proofs.laws.one_check.Goals as goal

pub returns : goal.returns
returns c = one
