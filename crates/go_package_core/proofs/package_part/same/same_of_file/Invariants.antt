use Rattle.std.proofs.Common.{◌≡◌, take}
use Rattle.go_package_core.proofs.package_part.same.same_of_file.Given as goal

abbrev pub invariant-loop-place : goal.invariant-loop-place
invariant-loop-place l = take l.place l.imports ≡ take l.place l.others
