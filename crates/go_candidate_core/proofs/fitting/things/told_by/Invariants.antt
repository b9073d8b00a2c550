use Rattle.std.proofs.Common.{◌≡◌, drop}
use Rattle.go_summary_core.specs.declared_core.Packages.{package_in}
use Rattle.go_summary_core.specs.Views.{faces_told}
use Rattle.go_candidate_core.proofs.fitting.things.told_by.Given as goal

abbrev pub invariant-loop-number : goal.invariant-loop-number
invariant-loop-number l = package_in (faces_told (drop l.number l.fn.reached)) l.fn.path ≡ package_in (faces_told l.fn.reached) l.fn.path
