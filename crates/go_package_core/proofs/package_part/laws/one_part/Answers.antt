use Rattle.go_package_core.proofs.PackagePartOnePart.{one_part}
use Rattle.go_package_core.proofs.package_part.laws.one_part.Goals as goal

pub returns : goal.returns
returns c = one_part
