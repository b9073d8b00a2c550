use Rattle.std.proofs.Common.{◌≡◌, List, map, subst}
use Rattle.std.specs.Prelude.{IfOk}
use Rattle.go_env_core.specs.Scenes.{scene_shown}
use Rattle.go_env_core.specs.Fields.{TheField}
use Rattle.go_env_core.proofs.here.HereLiterals.field_names.Goals as goal

pub returns : goal.returns
returns c =
    subst (λ (fs : List TheField). IfOk c.field_names.result (λ names. map (λ n. n.now) names.items ≡ map (λ (f : TheField). f.name) fs)) c.seen_fields.ensures
    (c.field_names.ensures (scene_shown c.args.self.now.scene.now))
