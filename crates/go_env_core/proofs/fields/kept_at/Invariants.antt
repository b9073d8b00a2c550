use Rattle.std.proofs.Common.{◌≡◌, List, drop}
use Rattle.std.specs.Prelude.{slice_get}
use Rattle.go_term_core.specs.Shapes.{Line, fields_in}
use Rattle.go_env_core.specs.Scenes.{SceneModel}
use Rattle.go_env_core.specs.Fields.{fields_seen}
use Rattle.go_env_core.specs.mirrors.Seen.{hider_shown}
use Rattle.go_env_core.proofs.fields.kept_at.Given as goal

abbrev pub invariant-loop-field : goal.invariant-loop-field
invariant-loop-field l =
    (s : SceneModel) (ls : List Line)
    → slice_get (fields_seen s (hider_shown l.hider) l.home (fields_in ls (drop l.field-index l.fields))) l.left ≡ slice_get (fields_seen s (hider_shown l.hider) l.home (fields_in ls l.fields)) l.at
