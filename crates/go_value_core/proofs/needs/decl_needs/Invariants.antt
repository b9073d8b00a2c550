use Rattle.std.proofs.Common.{◌≡◌, ◌++◌, [], map, drop}
use Rattle.go_env_core.specs.Scenes.{scene_shown}
use Rattle.go_value_core.specs.Package.{idents_need}
use Rattle.go_value_core.proofs.needs.decl_needs.Given as goal

abbrev pub invariant-loop-ident : goal.invariant-loop-ident
invariant-loop-ident l = l.row.items ++ idents_need (scene_shown l.fn.scene) l.fn.placed.file (map (λ x. x.now) (drop l.ident-index l.ident-items)) ≡ idents_need (scene_shown l.fn.scene) l.fn.placed.file (map (λ x. x.now) l.ident-items)
