use Rattle.std.proofs.Common.{◌≡◌, take}
use Rattle.go_package_core.proofs.package_part.shared.shared_of_file.Given as goal

abbrev pub invariant-loop-imported : goal.invariant-loop-imported
invariant-loop-imported l = l.shared.items ≡ take l.imported-index l.imports
