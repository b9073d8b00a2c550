use Rattle.std.proofs.Common.{map}
use Rattle.std.specs.Vec.Iter.{into_iter_items}
use Rattle.go_package_core.specs.prepare.Packages.{trees_in}
use Rattle.go_package_core.specs.Checked.{answers_shown}
use Rattle.go_package_core.specs.package_part.Parts.{file_shown}
use Rattle.go_package_core.proofs.PackagePartNumbering.{SoFar}
use Rattle.go_package_core.proofs.package_part.files.files_made.Given as goal

abbrev pub invariant-loop-answers : goal.invariant-loop-answers
invariant-loop-answers l = SoFar l.blocks (trees_in l.«package») (map answers_shown l.fn.checked.items) (map answers_shown (into_iter_items l.answers-iterator)) (map file_shown l.files.items)
