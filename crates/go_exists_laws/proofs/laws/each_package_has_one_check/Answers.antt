use Rattle.go_exists_laws.proofs.Ones.{one_of_package}
use Rattle.go_exists_laws.proofs.laws.each_package_has_one_check.Goals as goal

pub returns : goal.returns
returns c = one_of_package c.packages_have_checks.ensures c.one_check.ensures
