use Rattle.std.proofs.Common.{◌≡◌, ◌++◌, drop, map}
use Rattle.go_object_core.specs.Objects.{object_shown}
use Rattle.go_machine_core.proofs.link.packages.paths_of.Given as goal

abbrev pub invariant-loop-object : goal.invariant-loop-object
invariant-loop-object g l = map (λ o. o.path) (map object_shown l.objects) ≡ map (λ n. n.now) l.paths.items ++ map (λ o. o.path) (map object_shown (drop l.object-index l.objects))
