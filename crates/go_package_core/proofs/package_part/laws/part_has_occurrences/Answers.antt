use Rattle.go_package_core.proofs.PackagePartOccurring.{part_has_occurrences}
use Rattle.go_package_core.proofs.package_part.laws.part_has_occurrences.Goals as goal

pub returns : goal.returns
returns c = part_has_occurrences
