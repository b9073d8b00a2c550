use Rattle.std.proofs.Common.{◌≡◌, drop, map}
use Rattle.go_machine_core.specs.link.Packages.{package_shown}
use Rattle.go_machine_core.specs.link.Reaching.{lacks_object}
use Rattle.go_machine_core.specs.link.mirrors.Numbering.{any_marked}
use Rattle.go_machine_core.proofs.link.reached.marked_lacks.Given as goal

abbrev pub invariant-loop-number : goal.invariant-loop-number
invariant-loop-number l = any_marked lacks_object (map package_shown l.packages) l.marks ≡ any_marked lacks_object (map package_shown (drop l.number l.packages)) (drop l.number l.marks)
