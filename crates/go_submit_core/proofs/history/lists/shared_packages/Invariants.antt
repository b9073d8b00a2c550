use Rattle.std.proofs.Common.{◌≡◌, take}
use Rattle.go_submit_core.proofs.history.lists.shared_packages.Given as goal

abbrev pub invariant-loop-package : goal.invariant-loop-package
invariant-loop-package l = l.shared.items ≡ take l.package-index l.packages
