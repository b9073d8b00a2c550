use Rattle.std.proofs.Common.{◌≡◌, map, subst, arith, rules}
use Rattle.std.specs.Prelude.{IfSome}
use Rattle.go_term_core.specs.Shapes.{shape}
use Rattle.go_term_core.specs.Terms.{Term}
use Rattle.go_collections_core.specs.spelling_index.Spelled.{AreSpelled, places_of}
use Rattle.go_env_core.specs.Scenes.{scene_shown}
use Rattle.go_env_core.specs.Fields.{TheField, literals_in}
use Rattle.go_env_core.proofs.field_index.field_index.Goals as goal

pub returns : goal.returns
returns c =
    let s = scene_shown c.args.scene.now in
    let p = c.parts-parts.result in
    let bare : p.stars ≡ 0 = omega (arith, c.if-parts-gt0.false) in
    let is : shape p.term.now ≡ c.args.t.now = search rules in
    subst (λ (t : Term). IfSome c.term_index.result (λ index. AreSpelled (places_of index.now) (map (λ (f : TheField). f.name) ((literals_in s).fields t)))) is
    (c.term_index.ensures s)
