use Rattle.std.proofs.Common.{◌≡◌, ◌++◌, List, map, drop}
use Rattle.go_term_core.specs.Shapes.{Line, fields_in}
use Rattle.go_env_core.specs.Scenes.{SceneModel}
use Rattle.go_env_core.specs.Fields.{TheField, fields_seen}
use Rattle.go_env_core.specs.mirrors.Seen.{hider_shown}
use Rattle.go_env_core.proofs.fields.kept_names.Given as goal

abbrev pub invariant-loop-field : goal.invariant-loop-field
invariant-loop-field l =
    (s : SceneModel) (ls : List Line)
    → map (λ n. n.now) l.names.items ++ map (λ (f : TheField). f.name) (fields_seen s (hider_shown l.hider) l.home (fields_in ls (drop l.field-index l.fields)))
    ≡ map (λ (f : TheField). f.name) (fields_seen s (hider_shown l.hider) l.home (fields_in ls l.fields))
