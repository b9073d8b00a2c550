use Rattle.std.proofs.Common.{◌≡◌, replicate, None}
use Rattle.go_package_core.proofs.package_part.parts.no_parts.Given as goal

abbrev pub invariant-loop-package : goal.invariant-loop-package
invariant-loop-package l = l.parts.items ≡ replicate l._package None
