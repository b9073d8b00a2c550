use Rattle.std.proofs.Common.{◌≡◌, take, map}
use Rattle.go_block_core.specs.Naming.{imported_in}
use Rattle.go_package_core.proofs.package_part.shared.shared_imports.Given as goal

abbrev pub invariant-loop-imports : goal.invariant-loop-imports
invariant-loop-imports l = map imported_in l.shared.items ≡ map imported_in (take l.imports-index l.files)
