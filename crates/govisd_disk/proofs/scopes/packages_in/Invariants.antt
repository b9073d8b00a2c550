use Rattle.std.proofs.Common.{◌≡◌, ◌++◌, drop, map}
use Rattle.govisd_disk.specs.Scopes.{packages_in}
use Rattle.govisd_disk.proofs.scopes.packages_in.Given as goal

abbrev pub invariant-loop-package : goal.invariant-loop-package
invariant-loop-package l = packages_in (l.scope.package.now, l.scope.file.now) l.packages ≡ map (λ p. p.now) l.paths.items ++ packages_in (l.scope.package.now, l.scope.file.now) (drop l.package-index l.packages)
