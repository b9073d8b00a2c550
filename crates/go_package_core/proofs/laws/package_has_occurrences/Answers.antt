use Rattle.go_package_core.proofs.Meanings.{has_occurrences}
use Rattle.go_package_core.proofs.laws.package_has_occurrences.Goals as goal

pub returns : goal.returns
returns c = has_occurrences
