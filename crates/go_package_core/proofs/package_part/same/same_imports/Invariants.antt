use Rattle.std.proofs.Common.{◌≡◌, take, map}
use Rattle.go_block_core.specs.Naming.{imported_in}
use Rattle.go_package_core.proofs.package_part.same.same_imports.Given as goal

abbrev pub invariant-loop-place : goal.invariant-loop-place
invariant-loop-place l = map imported_in (take l.place l.files) ≡ map imported_in (take l.place l.others)
