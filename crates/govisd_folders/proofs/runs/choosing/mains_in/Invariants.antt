use Rattle.std.proofs.Common.{◌≡◌, ◌++◌, drop, map}
use Rattle.go_object_core.specs.Objects.{object_shown}
use Rattle.govisd_folders.specs.runs.Choices.{main_paths}
use Rattle.govisd_folders.proofs.runs.choosing.mains_in.Given as goal

abbrev pub invariant-loop-object : goal.invariant-loop-object
invariant-loop-object l = main_paths (l.scope.package.now, l.scope.file.now) (map object_shown l.objects) ≡ map (λ m. m.now) l.mains.items ++ main_paths (l.scope.package.now, l.scope.file.now) (map object_shown (drop l.object-index l.objects))
