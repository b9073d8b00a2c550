use Rattle.std.proofs.Common.{◌≡◌, List, map, ap, subst, ◌∙◌}
use Rattle.std.specs.Prelude.{IfOk}
use Rattle.go_collections_core.specs.spelling_index.Spelled.{places_of}
use Rattle.go_expr_core.specs.denote_core.CompositeMarks.{field_number}
use Rattle.go_env_core.specs.Scenes.{scene_shown}
use Rattle.go_env_core.specs.Fields.{TheField, literals_in}
use Rattle.go_env_core.proofs.ByName.{numbered_first}
use Rattle.go_env_core.proofs.fields.field_number.Goals as goal

pub returns-in-Some : goal.returns-in-Some
returns-in-Some c =
    c.first_place.ensures
    ∙ numbered_first (places_of c.in-Some.index.now) (map (λ (f : TheField). f.name) ((literals_in (scene_shown c.args.scene.now)).fields c.args.t.now)) c.args.name.now c.in-Some.ensures

pub returns-in-None : goal.returns-in-None
returns-in-None c =
    subst (λ (fs : List TheField). IfOk c.searched_number.result (λ number. number ≡ field_number fs c.args.name.now)) c.seen_fields.ensures
    (c.searched_number.ensures (scene_shown c.args.scene.now))
