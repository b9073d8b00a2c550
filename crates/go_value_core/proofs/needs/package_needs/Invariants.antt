use Rattle.std.proofs.Common.{◌≡◌, ◌++◌, map, drop}
use Rattle.go_digraph_core.specs.needs.Needs.{rows_of}
use Rattle.go_env_core.specs.Scenes.{scene_shown}
use Rattle.go_value_core.specs.Package.{package_needs, placed_shown}
use Rattle.go_value_core.proofs.needs.package_needs.Given as goal

abbrev pub invariant-loop-placed : goal.invariant-loop-placed
invariant-loop-placed l = rows_of l.rows.items ++ package_needs (scene_shown l.fn.scene) (map placed_shown (drop l.placed-index l.decls)) ≡ package_needs (scene_shown l.fn.scene) (map placed_shown l.decls)
